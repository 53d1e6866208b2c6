-- Loops of exploring within the room, of any construction in any format: from what the buffers keep at first, so many steps lead to what they
-- keep now; one more step, more states than fit, and the end. Assumes nothing.
use Rattle.std.proofs.Common.{◌≡◌, ℕ, suc, ◌+◌, ◌<◌, length, Some, None, refl, ◌∙◌, add-one, arith}
use Rattle.automata.specs.System.{Built}
use Rattle.automata.proofs.Growth.{Grows, grows_states}
use Rattle.complement.specs.Build.{Lent}
use Rattle.complement.specs.Found.{Format, Shows, held, SameBuffers, Turns, StepAsks}
use Rattle.complement.specs.declared.explore.Growth.{Growth}

-- what goes on from more states than fit has more than fit too
pub over_grown :
    {X : Type 0} {b later : Built X} {room : ℕ} → Grows b later → room < length b.states → room < length later.states
over_grown g over = let more = grows_states g in omega arith

-- SIZES: each buffer is as long as it was
pub record SameSizes (l l₀ : Lent) : Type 0 where
  pub words : length l.words ≡ length l₀.words
  pub sets : length l.sets ≡ length l₀.sets

-- and is the same one
pub same_self : {g : Growth} → SameBuffers g g
same_self = record { words = refl; sets = refl; words_length = refl; sets_length = refl }

pub same_then : {g₀ g₁ g₂ : Growth} → SameBuffers g₀ g₁ → SameBuffers g₁ g₂ → SameBuffers g₀ g₂
same_then e f =
    record {
      words = f.words ∙ e.words;
      sets = f.sets ∙ e.sets;
      words_length = f.words_length ∙ e.words_length;
      sets_length = f.sets_length ∙ e.sets_length;
    }

-- SO MANY STEPS, given what they make of anything found
pub record Reaching {X : Type 0} (f : Format X) (steps : ℕ → Built X → Built X) (g₀ g : Growth) (count : ℕ) : Type 0 where
  pub same : SameBuffers g₀ g
  pub shows : (b : Built X) → Shows f b (held g₀) g₀.found → Shows f (steps count b) (held g) g.found

module _ {X : Type 0} {f : Format X} {steps : ℕ → Built X → Built X} {g₀ : Growth} where
  pub reach_start : ((b : Built X) → steps 0 b ≡ b) → Reaching f steps g₀ g₀ 0
  reach_start none = record { same = same_self; shows = λ b h. rw (none b) h }

  module _ {g : Growth} {k : ℕ} (h : Reaching f steps g₀ g k) where
    -- what a step asks still holds
    pub reach_asks :
        {b : Built X} {i c : ℕ} → Shows f b (held g₀) g₀.found → Grows b (steps k b) → i < g₀.found.states → c < f.letters →
        StepAsks f g i c
    reach_asks {b} shows grows inside few =
        let now = h.shows b shows in
        let more = grows_states grows in
        let count = shows.states.counted in
        let count_now = now.states.counted in
        record { built = steps k b; shows = now; inside = omega arith; letter_inside = few }

    module _ {g' : Growth} {step : Built X → Built X} (next : (b : Built X) → steps (suc k) b ≡ step (steps k b)) where
      pub reach_turn : Turns f step g g' (Some tt) → Reaching f steps g₀ g' (k + 1)
      reach_turn turn =
          rw add-one
          (record {
            same = same_then h.same turn.same;
            shows = λ b shows. rw (next b) (turn.from (steps k b) (h.shows b shows));
          })

      -- more states than fit: nothing later changes that
      pub reach_full :
          Turns f step g g' None → (last : ℕ) → ((b : Built X) → Grows (steps (suc k) b) (steps last b)) →
          Turns f (steps last) g₀ g' None
      reach_full turn last grows =
          record {
            same = same_then h.same turn.same;
            from = λ b shows. over_grown (grows b) (rw (next b) (turn.from (steps k b) (h.shows b shows)));
          }

    pub reach_end : (last : ℕ) → k ≡ last → Turns f (steps last) g₀ g (Some tt)
    reach_end last e = record { same = h.same; from = λ b shows. rw (← e) (h.shows b shows) }
