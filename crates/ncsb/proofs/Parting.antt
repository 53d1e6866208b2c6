-- Choices among the states of a set, lists with a quadruple for each of them, and a set parted by one into what is chosen and the rest.
-- Assumes nothing.
use mathlib.Core.Path.{◌≡◌, refl, sym, ◌∙◌}
use mathlib.Core.Bool.{Bool, true, false, ◌&&◌, ◌||◌, not}
use mathlib.Core.List.{map}
use Prim.Native.Nat.{ℕ, ◌+◌, ◌<◌, ◌^◌}
use native.Mathlib.Omega.{arith}
use lib.ListN.{length, get_or, length-map}
use Rattle.basics.proofs.Lists.{get_d_map}
use Rattle.automata.specs.System.{Member}
use Rattle.automata.proofs.Members.{member_index, index_member}
use Rattle.sets.specs.Sets.{has, size, subsets}
use Rattle.sets.proofs.Subsets.{subsets_all, subsets_length, subsets_rises}
use Rattle.ncsb.specs.Step.{RisingS}
use Rattle.ncsb.specs.declared.Quadruple.{Quadruple}

-- a choice among the states of a set
pub record Choice (limit set choice : ℕ) : Type 0 where
  pub small : choice < 2 ^ limit
  pub within : (q : ℕ) → has choice q ≡ true → has set q ≡ true

pub choice_at : (k s i : ℕ) → i < length (subsets k s) → Choice k s (get_or (subsets k s) i 0)
choice_at k s i l =
    let r = (subsets_all k s (get_or (subsets k s) i 0)).0 (i, l, refl) in record { small = r.0; within = r.1 }

pub choice_index : (k s : ℕ) {f : ℕ} → Choice k s f → (i : ℕ) × (i < length (subsets k s)) × (get_or (subsets k s) i 0 ≡ f)
choice_index k s {f} c = (subsets_all k s f).1 (c.small, c.within)

-- A LIST WITH A QUADRUPLE FOR EACH CHOICE, by the rising number of the choice
module _ (k s : ℕ) (f : ℕ → Quadruple) where
  pub choices_length : length (map f (subsets k s)) ≡ 2 ^ size k s
  choices_length = length-map (subsets k s) f ∙ subsets_length k s

  module _ (i : ℕ) (l : i < length (map f (subsets k s))) where
    index_inside : i < length (subsets k s)
    index_inside = rw (length-map (subsets k s) f) at l

    -- the i-th quadruple is the one for the i-th choice
    pub choice_there : (blank : Quadruple) → get_or (map f (subsets k s)) i blank ≡ f (get_or (subsets k s) i 0)
    choice_there blank = get_d_map f (subsets k s) 0 blank i index_inside

  -- it holds the quadruples for choices, and no other
  pub member_choice : {y : Quadruple} → Member y (map f (subsets k s)) → (c : ℕ) × Choice k s c × (f c ≡ y)
  member_choice {y} m =
      let (i, l, e) = member_index y m in
      (get_or (subsets k s) i 0, choice_at k s i (index_inside i l), sym (choice_there i l y) ∙ e)

  pub choice_member : {c : ℕ} → Choice k s c → Member (f c) (map f (subsets k s))
  choice_member {c} h =
      let (i, l, e) = choice_index k s h in
      let inside : i < length (map f (subsets k s)) = rw (length-map (subsets k s) f) l in
      rw (choice_there i inside (f c), e) at (index_member (map f (subsets k s)) (f c) i inside)

  -- where S is the choice, and always the same beside it, S rises
  pub choices_rising :
      (rest : ℕ) → ((c : ℕ) → Choice k s c → (f c).S ≡ rest + c) → RisingS (map f (subsets k s))
  choices_rising rest adds blank i j l m =
      let li : i < length (map f (subsets k s)) = omega arith in
      let up = subsets_rises k s i j l (index_inside j m) in
      let si = adds (get_or (subsets k s) i 0) (choice_at k s i (index_inside i li)) in
      let sj = adds (get_or (subsets k s) j 0) (choice_at k s j (index_inside j m)) in
      rw (choice_there i li blank, choice_there j m blank, si, sj) (omega arith)

-- one state of a set t, of which s is chosen
pub parted_all : (t s : Bool) → (s ≡ true → t ≡ true) → (t && not s || s) ≡ t
parted_all true true h = refl
parted_all true false h = refl
parted_all false true h = sym (h refl)
parted_all false false h = refl

pub parted_apart : (t s : Bool) → (t && not s && s) ≡ false
parted_apart true true = refl
parted_apart true false = refl
parted_apart false s = refl

pub rest_of : (c s : Bool) → (c && s) ≡ false → ((c || s) && not s) ≡ c
rest_of true true h = sym h
rest_of true false h = refl
rest_of false true h = refl
rest_of false false h = refl

-- quadruples with the same sets are equal
pub same_parts : {x y : Quadruple} → x.N ≡ y.N → x.C ≡ y.C → x.S ≡ y.S → x.B ≡ y.B → x ≡ y
same_parts n c s b = λ i. record { N = n i; C = c i; S = s i; B = b i }
