-- What a merge says, of a refusal and of the merged words; and what follows of what it says. Assumes nothing.
use mathlib.Core.Path.{◌≡◌, sym, ap, ◌∙◌}
use mathlib.Core.List.{List}
use Prim.Native.Nat.{ℕ, ◌-◌}
use borrow.Rule.Slice.PartMut.{mid_of, put_mid}
use native.Mathlib.Omega.{arith}
use lib.ListN.{length, take, replicate}
use Rattle.std.specs.Prelude.{Ok, Err}
use Rattle.basics.specs.Buffers.{as_written, zeros, filled, overwritten}
use Rattle.basics.specs.Refusals.{number, written}
use Rattle.basics.specs.declared.Refusal.{Refusal}
use Rattle.basics.specs.declared.Written.{Written}
use Rattle.basics.proofs.Filled.{filled_take}
use Rattle.basics.proofs.Overwriting.{overwritten_cleared}
use Rattle.basics.proofs.Refusals.{numbered}
use Rattle.basics.proofs.Refusing.{written_number, written_count, written_none, written_refused, after_accepted, after_refused}
use Rattle.merge.specs.Merge.{merge_refusal, MergeSays}
use Rattle.merge.specs.Merged.{merged_words}

-- SAYING IT: a refusal, and an accepted merge
module _ (t s w : List ℕ) where
  pub says_refused :
      (r : Refusal) {v : List ℕ} → number r ≡ merge_refusal t s (length w) → v ≡ replicate (length w) 0 →
      MergeSays t s (written (Err r)) w v
  unfolding zeros
  says_refused r told cleared =
      let met : number r ≡ 0 → ⊥ = λ none. let some = (numbered r).from_one in omega arith in
      record {
        answer = written_refused (number r) (merge_refusal t s (length w)) told met (length (merged_words t s));
        words = cleared ∙ sym (after_refused (merge_refusal t s (length w)) (λ none. met (told ∙ none)) (merged_words t s) w);
      }

  pub says_merged :
      {end : ℕ} {v part : List ℕ} → 0 ≡ merge_refusal t s (length w) → end ≡ length (merged_words t s) →
      v ≡ overwritten (merged_words t s) w → part ≡ replicate (length (mid_of end (length v - end) v)) 0 →
      MergeSays t s (written (Ok end)) w (put_mid end (length v - end) v part)
  unfolding as_written zeros
  says_merged told ends laid cleared =
      let accepted : merge_refusal t s (length w) ≡ 0 = sym told in
      record {
        answer = rw (accepted, ends);
        words =
            overwritten_cleared (merged_words t s) w ends laid cleared
            ∙ sym (after_accepted (merge_refusal t s (length w)) accepted (merged_words t s) w);
      }

-- WHAT IT SAYS
module _ {t s : List ℕ} {r : Written} {w w_now : List ℕ} (says : MergeSays t s r w w_now) where
  -- its number is the refusal's
  pub says_number : r.number ≡ merge_refusal t s (length w)
  says_number =
      ap (λ (x : Written). x.number) says.answer ∙ written_number (merge_refusal t s (length w)) (length (merged_words t s))

  -- a refusal: no count, and every word is zero
  module _ (met : r.number ≡ 0 → ⊥) where
    pub refused_count : r.count ≡ 0
    refused_count =
        ap (λ (x : Written). x.count) says.answer
        ∙ written_none (merge_refusal t s (length w)) (length (merged_words t s)) (λ none. met (says_number ∙ none))

    pub refused_words : w_now ≡ zeros w
    refused_words =
        says.words ∙ after_refused (merge_refusal t s (length w)) (λ none. met (says_number ∙ none)) (merged_words t s) w

  -- an accepted merge: how many words it wrote, and that these are the merged words
  module _ (fine : r.number ≡ 0) where
    pub merged_count : r.count ≡ length (merged_words t s)
    merged_count =
        ap (λ (x : Written). x.count) says.answer
        ∙ written_count (merge_refusal t s (length w)) (length (merged_words t s)) (sym says_number ∙ fine)

    pub merged_left : w_now ≡ filled (merged_words t s) w
    merged_left = says.words ∙ after_accepted (merge_refusal t s (length w)) (sym says_number ∙ fine) (merged_words t s) w

    pub merged_used : take r.count w_now ≡ merged_words t s
    merged_used = rw merged_left (filled_take (merged_words t s) w r.count (sym merged_count))
