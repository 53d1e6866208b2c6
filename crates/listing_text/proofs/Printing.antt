-- Laws of the listing's lines in the lent output: each line, the states, the edges, and all of them behind each other. Assumes nothing.
use mathlib.Core.Path.{◌≡◌}
use Rattle.std.specs.Prelude.{Option, Some}
use mathlib.Core.List.{List, [], ◌∷◌, ◌++◌, append_assoc}
use Prim.Native.Nat.{ℕ, suc, ◌+◌, ◌*◌, ◌≤◌, ◌<◌}
use native.Mathlib.Nat.{mul-suc, mul-le-mul_left}
use native.Mathlib.Numerals.{add-one}
use native.Mathlib.Omega.{arith}
use Rattle.basics.specs.Rows.{rows}
use Rattle.basics.proofs.Booleans.{eq_eqb, ne_eqb}
use Rattle.automata.specs.System.{an_edge}
use Rattle.tables.specs.Table.{n_of, m_of, flags_of, letter_of, target_of}
use Rattle.ncsb.specs.declared.Quadruple.{Quadruple}
use Rattle.record_words.specs.Record.{quadruple_at}
use Rattle.complement.specs.declared.Counts.{Counts}
use Rattle.basics.specs.Refusals.{number}
use Rattle.basics.specs.declared.Refusal.{Refusal}
use Rattle.decimal.specs.Lines.{space, newline, field_bytes, line, decimal, ascii, HasRoom, Appended}
use Rattle.decimal.specs.declared.lines.Output.{Output}
use Rattle.decimal.proofs.Placing.{nothing_appended, then_appended, appended_wider, appended_room, row_appended}
use Rattle.listing_text.specs.Built.{IsSource, first_source, source_behind, source_of, built_state, built_edge, built_edges, built_text, printed, Printable, PrintableBuild}
use Rattle.listing_text.specs.Listing.{refused_line, counts_line, state_line, edge_line}
use Rattle.listing_text.specs.Output.{refused_bytes, counts_bytes, state_bytes, edge_bytes, text_bytes, output_bytes}

-- LINES
pub refused_appended :
    (r : Refusal) {n : ℕ} {o o' o'' : Output} → n ≡ number r → Appended o 8 (ascii "refused ") o' →
    Appended o' field_bytes (decimal n ++ (newline ∷ [])) o'' → Appended o refused_bytes (refused_line (number r)) o''
unfolding refused_line line
refused_appended r e p q = rw (← e) (then_appended p q)

pub counts_appended :
    (n m : ℕ) {o o₁ o₂ o₃ o₄ : Output} → Appended o 7 (ascii "states ") o₁ →
    Appended o₁ field_bytes (decimal n ++ (space ∷ [])) o₂ → Appended o₂ 6 (ascii "edges ") o₃ →
    Appended o₃ field_bytes (decimal m ++ (newline ∷ [])) o₄ → Appended o counts_bytes (counts_line n m) o₄
unfolding counts_line line ascii
counts_appended n m p q r s =
    rw (append_assoc (decimal n) (space ∷ []) (ascii "edges " ++ (decimal m ++ (newline ∷ [])))) at
    (then_appended p (then_appended q (then_appended r s)))

pub state_appended :
    (w s : List ℕ) (i : ℕ) {x : Quadruple} {f : ℕ} {o o' : Output} → x ≡ quadruple_at s i → f ≡ flags_of w i →
    Appended o state_bytes (line (i ∷ x.N ∷ x.C ∷ x.S ∷ x.B ∷ f ∷ [])) o' → Appended o state_bytes (built_state w s i) o'
unfolding built_state state_line
state_appended w s i d e p = rw (← d, ← e) p

pub edge_appended :
    (w : List ℕ) (i r : ℕ) {l t : ℕ} {o o' : Output} → l ≡ letter_of w r → t ≡ target_of w r →
    Appended o edge_bytes (line (i ∷ l ∷ t ∷ [])) o' → Appended o edge_bytes (built_edge w i r) o'
unfolding built_edge edge_line an_edge
edge_appended w i r e f p = rw (← e, ← f) p

-- room for one row of those that are still to be written
pub row_room :
    (most : ℕ) {n i : ℕ} {xs : List ℕ} {o o' : Output} → HasRoom o (most * n) → i < n → Appended o (most * i) xs o' → HasRoom o' most
row_room most {n} {i} room l so_far =
    let more = mul-le-mul_left most l in let one = mul-suc most i in appended_room most so_far (omega arith)

-- THE LOOP OF `put_edges`: the records passed are written, and `source` is that of the one to be written next
abbrev pub edge_row : (w : List ℕ) → (r : ℕ) → List ℕ
edge_row w r = built_edge w (source_of w r) (suc r)

pub record Sourcing (w : List ℕ) (o : Output) (i : ℕ) (source : Option ℕ) (o_now : Output) : Type 0 where
  pub within : i ≤ m_of w
  pub source_is : IsSource w source (source_of w i)
  pub written : Appended o (edge_bytes * i) (rows i (edge_row w)) o_now

pub sourcing_start : {w : List ℕ} (o : Output) {x : Option ℕ} → HasRoom o 0 → IsSource w x (first_source w 0) → Sourcing w o 0 x o
unfolding source_of rows
sourcing_start o room e = record { within = omega arith; source_is = e; written = nothing_appended o room }

module _ {w : List ℕ} {o : Output} {i : ℕ} {x : Option ℕ} {o' : Output} (p : Sourcing w o i x o') where
  module _ {source : ℕ} (e : x ≡ Some source) where
    sourcing_is : IsSource w (Some source) (source_of w i)
    sourcing_is = rw e at p.source_is

    pub sourcing_small : source < n_of w
    sourcing_small = let is = sourcing_is in omega (arith, is.0, is.1)

    pub sourcing_turn :
        {number : ℕ} {x' : Option ℕ} {o'' : Output} → number ≡ i + 1 → i < m_of w →
        Appended o' edge_bytes (built_edge w source number) o'' → IsSource w x' (source_behind w source number) →
        Sourcing w o number x' o''
    unfolding source_of
    sourcing_turn number_is l q behind =
        let s = sourcing_is.1 in
        rw number_is
        (record {
          within = omega arith;
          source_is = rw add-one (rw (number_is, s, add-one) at behind);
          written = row_appended (edge_row w) i p.written (rw (s, number_is, add-one) at q);
        })

  pub sourcing_end : m_of w ≤ i → Appended o (edge_bytes * m_of w) (built_edges w (m_of w)) o'
  unfolding built_edges
  sourcing_end l = let k = p.within in let e : i ≡ m_of w = omega arith in rw e at p.written

-- THE WHOLE TEXT
module _
    {w s : List ℕ} {n m : ℕ} (states_are : n ≡ n_of w) (edges_are : m ≡ m_of w) (all : Printable w s) {o o₁ : Output}
    (counted : Appended o counts_bytes (counts_line n m) o₁) where
  pub states_room : HasRoom o output_bytes → HasRoom o₁ (state_bytes * n)
  unfolding text_bytes
  states_room room = let l = all.room in appended_room (state_bytes * n) counted (omega arith)

  module _ {o₂ : Output} (stated : Appended o₁ (state_bytes * n) (rows n (built_state w s)) o₂) where
    pub edges_room : HasRoom o output_bytes → HasRoom o₂ (edge_bytes * m_of w)
    unfolding text_bytes
    edges_room room = let l = all.room in appended_room (edge_bytes * m_of w) (then_appended counted stated) (omega arith)

    pub text_appended :
        {o₃ : Output} → Appended o₂ (edge_bytes * m_of w) (built_edges w (m_of w)) o₃ →
        Appended o output_bytes (built_text (n_of w) (m_of w) w s) o₃
    unfolding built_text text_bytes
    text_appended edges =
        appended_wider output_bytes all.room
        (rw (states_are, edges_are) at (then_appended counted (then_appended stated edges)))

-- by the answer's number
pub answer_accepted :
    (r : Counts) (w s : List ℕ) {o o' : Output} → r.number ≡ 0 → PrintableBuild r.states r.edges w s →
    Appended o output_bytes (built_text (n_of w) (m_of w) w s) o' → Appended o output_bytes (printed r w s) o'
unfolding printed
answer_accepted r w s z b p = let e = eq_eqb z in rw (e, b.states_are, b.edges_are) p

pub answer_refused :
    (r : Counts) (w s : List ℕ) {o o' : Output} → (r.number ≡ 0 → ⊥) → Appended o refused_bytes (refused_line r.number) o' →
    Appended o output_bytes (printed r w s) o'
unfolding printed
answer_refused r w s z p = let e = ne_eqb r.number 0 z in rw e (appended_wider output_bytes (omega arith) p)
