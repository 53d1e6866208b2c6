-- The words of a chained table in a buffer, said of each index by itself; what a table reads in them; and how flags are set in a table that
-- has none. Assumes nothing.
use mathlib.Core.Path.{◌≡◌, refl, sym, ◌∙◌}
use mathlib.Core.List.{List}
use Prim.Native.Nat.{ℕ, suc, ◌+◌, ◌*◌, ◌≤◌, ◌<◌}
use native.Mathlib.Omega.{arith}
use borrow.Author.Count.{below_more}
use lib.ListN.{length, get_or, set, length-set, get_or-eq_default}
use lib.Seq.{ext_get_or, get_or-set_same, get_or-set_other}
use Rattle.basics.specs.Buffers.{filled}
use Rattle.basics.proofs.Filled.{filled_length, filled_at}
use Rattle.automata.specs.Automaton.{Automaton}
use Rattle.automata.specs.System.{Edge, edge_at}
use Rattle.tables.specs.Made.{table_of}
use Rattle.tables.specs.Table.{table_words, n_of, k_of, m_of, flags_of, head_of, letter_of, target_of, next_of}
use Rattle.tables.proofs.Made.{made_state, made_record}
use Rattle.tables.proofs.Places.{WordPlace, states_place, letters_place, records_place, flags_place, head_place, letter_place, target_place, next_place, beyond_place, place_of, letter_at, target_at, next_at}
use Rattle.layout.specs.Chained.{first_record, next_record, flags_word, record_row, state_row, chained_words}
use Rattle.layout.specs.Triples.{plain}
use Rattle.layout.proofs.Words.{states_width, records_width, chained_length}

-- the words are those of the table, and zero beyond it
pub record Indexed (a : Automaton) (es : List Edge) (w : List ℕ) : Type 0 where
  pub states : get_or w 0 0 ≡ a.states
  pub letters : get_or w 1 0 ≡ a.letters
  pub records : get_or w 2 0 ≡ length es
  pub flags : (i : ℕ) → i < a.states → get_or w (3 + 2 * i) 0 ≡ flags_word a i
  pub head : (i : ℕ) → i < a.states → get_or w (4 + 2 * i) 0 ≡ first_record i es
  pub letter : (r : ℕ) → r < length es → get_or w (3 + 2 * a.states + 3 * r) 0 ≡ (edge_at es r).letter
  pub target : (r : ℕ) → r < length es → get_or w (4 + 2 * a.states + 3 * r) 0 ≡ (edge_at es r).target
  pub next : (r : ℕ) → r < length es → get_or w (5 + 2 * a.states + 3 * r) 0 ≡ next_record es r
  pub beyond : (i : ℕ) → table_words a.states (length es) ≤ i → get_or w i 0 ≡ 0

-- SO A TABLE READS in them
module _ {a : Automaton} {es : List Edge} {w : List ℕ} (x : Indexed a es w) where
  pub indexed_n : n_of w ≡ a.states
  unfolding n_of
  indexed_n = x.states

  pub indexed_k : k_of w ≡ a.letters
  unfolding k_of
  indexed_k = x.letters

  pub indexed_m : m_of w ≡ length es
  unfolding m_of
  indexed_m = x.records

  pub indexed_flags : (i : ℕ) → i < a.states → flags_of w i ≡ flags_word a i
  unfolding flags_of
  indexed_flags = x.flags

  pub indexed_head : (i : ℕ) → i < a.states → head_of w i ≡ first_record i es
  unfolding head_of
  indexed_head = x.head

  pub indexed_letter : (r : ℕ) → r < length es → letter_of w (suc r) ≡ (edge_at es r).letter
  indexed_letter r l = letter_at w r ∙ rw indexed_n (x.letter r l)

  pub indexed_target : (r : ℕ) → r < length es → target_of w (suc r) ≡ (edge_at es r).target
  indexed_target r l = target_at w r ∙ rw indexed_n (x.target r l)

  pub indexed_next : (r : ℕ) → r < length es → next_of w (suc r) ≡ next_record es r
  indexed_next r l = next_at w r ∙ rw indexed_n (x.next r l)

module _ (a : Automaton) (es : List Edge) where
  -- two buffers with the words of one table agree
  indexed_same : {v w : List ℕ} → Indexed a es v → Indexed a es w → (i : ℕ) → get_or v i 0 ≡ get_or w i 0
  indexed_same {v} {w} x y i = go (place_of a.states (length es) i)
    where
      go : WordPlace a.states (length es) i → get_or v i 0 ≡ get_or w i 0
      go (states_place e) = rw e (x.states ∙ sym y.states)
      go (letters_place e) = rw e (x.letters ∙ sym y.letters)
      go (records_place e) = rw e (x.records ∙ sym y.records)
      go (flags_place q l e) = rw e (x.flags q l ∙ sym (y.flags q l))
      go (head_place q l e) = rw e (x.head q l ∙ sym (y.head q l))
      go (letter_place r l e) = rw e (x.letter r l ∙ sym (y.letter r l))
      go (target_place r l e) = rw e (x.target r l ∙ sym (y.target r l))
      go (next_place r l e) = rw e (x.next r l ∙ sym (y.next r l))
      go (beyond_place l) = x.beyond i l ∙ sym (y.beyond i l)

  -- words that agree at each index
  indexed_by : {v w : List ℕ} → ((i : ℕ) → get_or w i 0 ≡ get_or v i 0) → Indexed a es v → Indexed a es w
  indexed_by h x =
      record {
        states = h 0 ∙ x.states;
        letters = h 1 ∙ x.letters;
        records = h 2 ∙ x.records;
        flags = λ i l. h (3 + 2 * i) ∙ x.flags i l;
        head = λ i l. h (4 + 2 * i) ∙ x.head i l;
        letter = λ r l. h (3 + 2 * a.states + 3 * r) ∙ x.letter r l;
        target = λ r l. h (4 + 2 * a.states + 3 * r) ∙ x.target r l;
        next = λ r l. h (5 + 2 * a.states + 3 * r) ∙ x.next r l;
        beyond = λ i l. h i ∙ x.beyond i l;
      }

  -- THE TABLE'S OWN WORDS
  pub chained_indexed : Indexed a es (chained_words a es)
  unfolding chained_words table_of state_row record_row
  chained_indexed =
      let two = states_width a es in
      let three = records_width a es in
      let state = made_state a.states a.letters (length es) (state_row a es) (record_row es) two three in
      let links = made_record a.states a.letters (length es) (state_row a es) (record_row es) two three in
      record {
        states = refl;
        letters = refl;
        records = refl;
        flags = λ i l. state i 0 l (omega arith) (3 + 2 * i) (omega arith);
        head = λ i l. state i 1 l (omega arith) (4 + 2 * i) (omega arith);
        letter = λ r l. links r 0 l (omega arith) (3 + 2 * a.states + 3 * r) (omega arith);
        target = λ r l. links r 1 l (omega arith) (4 + 2 * a.states + 3 * r) (omega arith);
        next = λ r l. links r 2 l (omega arith) (5 + 2 * a.states + 3 * r) (omega arith);
        beyond =
            λ i l.
            let past : length (chained_words a es) ≤ i = (let long = chained_length a es in omega arith) in
            get_or-eq_default (chained_words a es) 0 past;
      }

  -- and a buffer that begins with them
  module _ (o : List ℕ) where
    pub filled_indexed : Indexed a es (filled (chained_words a es) o)
    filled_indexed = indexed_by (filled_at (chained_words a es) o) chained_indexed

    -- so such a buffer is the table's words and zero beyond them
    pub indexed_filled :
        (w : List ℕ) → Indexed a es w → length w ≡ length o → table_words a.states (length es) ≤ length o →
        w ≡ filled (chained_words a es) o
    indexed_filled w x size room =
        let long = chained_length a es in
        let whole = filled_length (chained_words a es) o (omega arith) in
        ext_get_or 0 w (filled (chained_words a es) o) (size ∙ sym whole) (λ i l. indexed_same x filled_indexed i)

-- SETTING FLAGS in a table that has none: those of the states below i have been set
pub record Flagging (a : Automaton) (i : ℕ) (w v : List ℕ) : Type 0 where
  pub done : i ≤ a.states
  pub size : length v ≡ length w
  pub flags : (q : ℕ) → q < i → get_or v (3 + 2 * q) 0 ≡ flags_word a q
  pub others : (j : ℕ) → ((q : ℕ) → q < i → j ≡ 3 + 2 * q → ⊥) → get_or v j 0 ≡ get_or w j 0

pub flagging_start : (a : Automaton) (w : List ℕ) → Flagging a 0 w w
flagging_start a w =
    record {
      done = omega arith;
      size = refl;
      flags = λ q l. absurd (omega arith);
      others = λ j h. refl;
    }

pub flagging_turn :
    {a : Automaton} {i : ℕ} {w v : List ℕ} → 3 + 2 * a.states ≤ length w → Flagging a i w v → i < a.states →
    Flagging a (i + 1) w (set v (3 + 2 * i) (flags_word a i))
flagging_turn {a} {i} {w} {v} room h l =
    let x = flags_word a i in
    let long = h.size in
    record {
      done = omega arith;
      size = length-set v (3 + 2 * i) x ∙ h.size;
      flags =
          below_more (λ q. get_or (set v (3 + 2 * i) x) (3 + 2 * q) 0 ≡ flags_word a q) i
          (λ q m. get_or-set_other v (3 + 2 * i) (3 + 2 * q) x 0 (omega arith) ∙ h.flags q m)
          (get_or-set_same v (3 + 2 * i) x 0 (omega arith));
      others =
          λ j d. get_or-set_other v (3 + 2 * i) j x 0 (d i (omega arith)) ∙ h.others j (λ q m. d q (omega arith));
    }

-- ONCE ALL FLAGS ARE SET the words are those of the automaton with these flags
pub flagging_indexed :
    (a : Automaton) (es : List Edge) {w v : List ℕ} → Indexed (plain a.states a.letters) es w →
    Flagging a a.states w v → Indexed a es v
unfolding plain
flagging_indexed a es x h =
    record {
      states = h.others 0 (λ q l e. omega arith) ∙ x.states;
      letters = h.others 1 (λ q l e. omega arith) ∙ x.letters;
      records = h.others 2 (λ q l e. omega arith) ∙ x.records;
      flags = h.flags;
      head = λ i l. h.others (4 + 2 * i) (λ q m e. omega arith) ∙ x.head i l;
      letter = λ r l. h.others (3 + 2 * a.states + 3 * r) (λ q m e. omega arith) ∙ x.letter r l;
      target = λ r l. h.others (4 + 2 * a.states + 3 * r) (λ q m e. omega arith) ∙ x.target r l;
      next = λ r l. h.others (5 + 2 * a.states + 3 * r) (λ q m e. omega arith) ∙ x.next r l;
      beyond = λ i l. h.others i (λ q m e. omega arith) ∙ x.beyond i l;
    }

pub flagging_end :
    (a : Automaton) (es : List Edge) (o w v : List ℕ) → table_words a.states (length es) ≤ length o →
    w ≡ filled (chained_words (plain a.states a.letters) es) o → Flagging a a.states w v →
    v ≡ filled (chained_words a es) o
unfolding plain
flagging_end a es o w v room e h =
    let b = plain a.states a.letters in
    let long = chained_length b es in
    let whole = filled_length (chained_words b es) o (omega arith) in
    let x : Indexed b es w = rw e (filled_indexed b es o) in
    indexed_filled a es o v (flagging_indexed a es x h) (h.size ∙ rw e whole) room
