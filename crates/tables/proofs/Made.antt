-- Laws of a table made of its rows: how many words it has, its counts, and the words of each state and of each record. Assumes nothing.
use mathlib.Core.Path.{◌≡◌, refl, ◌∙◌}
use mathlib.Core.List.{List, [], ◌∷◌, ◌++◌}
use Prim.Native.Nat.{ℕ, suc, ◌+◌, ◌*◌, ◌<◌}
use native.Mathlib.Omega.{arith}
use lib.ListN.{length, get_or, length-append, get_or-append}
use lib.Seq.{get_or-append-add}
use Rattle.basics.specs.Rows.{rows}
use Rattle.basics.proofs.Rows.{rows_length, rows_at}
use Rattle.tables.specs.Made.{table_of}
use Rattle.tables.specs.Table.{table_words, n_of, k_of, m_of, flags_of, head_of, letter_of, target_of, next_of}
use Rattle.tables.proofs.Places.{letter_at, target_at, next_at}

module _ (n k m : ℕ) (f g : ℕ → List ℕ) where
  -- its counts
  pub made_n : n_of (table_of n k m f g) ≡ n
  unfolding table_of n_of
  made_n = refl

  pub made_k : k_of (table_of n k m f g) ≡ k
  unfolding table_of k_of
  made_k = refl

  pub made_m : m_of (table_of n k m f g) ≡ m
  unfolding table_of m_of
  made_m = refl

  -- rows of states have two words, and rows of records three
  module _ (two : (i : ℕ) → i < n → length (f i) ≡ 2) (three : (r : ℕ) → r < m → length (g r) ≡ 3) where
    pub made_length : length (table_of n k m f g) ≡ table_words n m
    unfolding table_of
    made_length =
        let s = rows_length 2 n f two in
        let r = rows_length 3 m g three in
        let j = length-append (rows n f) (rows m g) in omega arith

    -- word j of state i, and of record r + 1, at their index p
    pub made_state :
        (i j : ℕ) → i < n → j < 2 → (p : ℕ) → p ≡ 3 + (2 * i + j) → get_or (table_of n k m f g) p 0 ≡ get_or (f i) j 0
    unfolding table_of
    made_state i j l h p e =
        let long = rows_length 2 n f two in
        rw e
        (get_or-append-add (n ∷ k ∷ m ∷ []) (rows n f ++ rows m g) (2 * i + j) 0
        ∙ get_or-append (rows n f) (rows m g) 0 (2 * i + j) (omega arith)
        ∙ rows_at 2 n f two i j l h)

    pub made_record :
        (r j : ℕ) → r < m → j < 3 → (p : ℕ) → p ≡ 3 + (2 * n + (3 * r + j)) →
        get_or (table_of n k m f g) p 0 ≡ get_or (g r) j 0
    unfolding table_of
    made_record r j l h p e =
        rw e
        (get_or-append-add (n ∷ k ∷ m ∷ []) (rows n f ++ rows m g) (2 * n + (3 * r + j)) 0
        ∙ rw (← rows_length 2 n f two) (get_or-append-add (rows n f) (rows m g) (3 * r + j) 0)
        ∙ rows_at 3 m g three r j l h)

    -- so a table reads them
    pub made_flags : (i : ℕ) → i < n → flags_of (table_of n k m f g) i ≡ get_or (f i) 0 0
    unfolding flags_of
    made_flags i l = made_state i 0 l (omega arith) (3 + 2 * i) (omega arith)

    pub made_head : (i : ℕ) → i < n → head_of (table_of n k m f g) i ≡ get_or (f i) 1 0
    unfolding head_of
    made_head i l = made_state i 1 l (omega arith) (4 + 2 * i) (omega arith)

    pub made_letter : (r : ℕ) → r < m → letter_of (table_of n k m f g) (suc r) ≡ get_or (g r) 0 0
    made_letter r l =
        letter_at (table_of n k m f g) r ∙ rw made_n (made_record r 0 l (omega arith) (3 + 2 * n + 3 * r) (omega arith))

    pub made_target : (r : ℕ) → r < m → target_of (table_of n k m f g) (suc r) ≡ get_or (g r) 1 0
    made_target r l =
        target_at (table_of n k m f g) r ∙ rw made_n (made_record r 1 l (omega arith) (4 + 2 * n + 3 * r) (omega arith))

    pub made_next : (r : ℕ) → r < m → next_of (table_of n k m f g) (suc r) ≡ get_or (g r) 2 0
    made_next r l =
        next_at (table_of n k m f g) r ∙ rw made_n (made_record r 2 l (omega arith) (5 + 2 * n + 3 * r) (omega arith))
