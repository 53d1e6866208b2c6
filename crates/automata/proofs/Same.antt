-- Automata that differ in nothing are equal, so they have the same runs. Assumes nothing.
use mathlib.Core.Path.{◌≡◌, sym, subst}
use Prim.Native.Nat.{ℕ}
use Rattle.automata.specs.Automaton.{Automaton, Takes, SingleRun, Same}

pub same_back : {a b : Automaton} → Same a b → Same b a
same_back s =
    record {
      states = sym s.states;
      letters = sym s.letters;
      initial = λ q. sym (s.initial q);
      accepting = λ q. sym (s.accepting q);
      edge = λ p c q. sym (s.edge p c q);
    }

-- they are equal: each field is, for functions that agree everywhere are
pub same_eq : {a b : Automaton} → Same a b → a ≡ b
same_eq s i =
    record {
      states = s.states i;
      letters = s.letters i;
      initial = λ q. s.initial q i;
      accepting = λ q. s.accepting q i;
      edge = λ p c q. s.edge p c q i;
    }

pub same_takes : {a b : Automaton} {w : ℕ → ℕ} → Same a b → Takes a w → Takes b w
same_takes {w} s = subst (λ a. Takes a w) (same_eq s)

pub same_single : {a b : Automaton} {w : ℕ → ℕ} → Same a b → SingleRun a w → SingleRun b w
same_single {w} s = subst (λ a. SingleRun a w) (same_eq s)
