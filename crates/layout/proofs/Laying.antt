-- The steps of laying out, one after the other, leave the chained words. Assumes nothing.
use mathlib.Core.Path.{◌≡◌, refl, sym, ◌∙◌}
use mathlib.Core.List.{List, [], ◌∷◌, ◌++◌, append-nil}
use Prim.Native.Nat.{ℕ, ◌+◌, ◌*◌, ◌-◌, ◌/◌, ◌≤◌, ◌<◌}
use native.Mathlib.Omega.{arith}
use lib.ListN.{length, get_or, take, drop, set, length-drop, length-append, get_or-append, drop_of_length-le}
use lib.Seq.{get_or-append-add, get_or-drop}
use Rattle.std.proofs.lemmas.List.{get_or-take, length-take-le}
use Rattle.basics.specs.Buffers.{filled}
use Rattle.basics.proofs.Tabulate.{tabulate_length, tabulate_at, tabulate_same}
use Rattle.automata.specs.System.{an_edge, edge_at}
use Rattle.tables.specs.Table.{flags}
use Rattle.layout.specs.Chained.{flags_word, chained_words}
use Rattle.layout.specs.Steps.{LayOutAsks, edges_in, LinkAsks, Linked, with_counts}
use Rattle.layout.specs.Triples.{triple_at, triples_of, plain}
use Rattle.layout.proofs.Indexed.{Indexed, indexed_filled}

pub counts_set : (n k m : ℕ) (w : List ℕ) → 3 ≤ length w → set (set (set w 0 n) 1 k) 2 m ≡ with_counts n k m w
unfolding with_counts
counts_set n k m [] l = absurd (omega arith)
counts_set n k m (x ∷ []) l = absurd (omega arith)
counts_set n k m (x ∷ y ∷ []) l = absurd (omega arith)
counts_set n k m (x ∷ y ∷ z ∷ w) l = refl

-- WORDS IN PARTS, where a word of each stands behind the counts: those of states, of edges, and the rest
abbrev parts : (n k m : ℕ) (x h e d : List ℕ) → List ℕ
parts n k m x h e d = with_counts n k m ((x ++ h) ++ (e ++ d))

module _ (n k m : ℕ) (x h e d : List ℕ) (three : length x ≡ 3) where
  abbrev all : List ℕ
  all = parts n k m x h e d

  behind_counts : (j : ℕ) → get_or all (3 + j) 0 ≡ get_or ((x ++ h) ++ (e ++ d)) (3 + j) 0
  unfolding with_counts
  behind_counts j = get_or-append-add (n ∷ k ∷ m ∷ []) _ j 0 ∙ get_or-drop 3 _ j 0

  state_word : (j : ℕ) → j < length h → get_or all (3 + j) 0 ≡ get_or h j 0
  state_word j l =
      let long = length-append x h in
      let at : 3 + j ≡ length x + j = omega arith in
      behind_counts j ∙ rw at (get_or-append (x ++ h) (e ++ d) 0 (length x + j) (omega arith) ∙ get_or-append-add x h j 0)

  behind_states : (j : ℕ) → get_or all (3 + (length h + j)) 0 ≡ get_or (e ++ d) j 0
  behind_states j =
      let long = length-append x h in
      let at : 3 + (length h + j) ≡ length (x ++ h) + j = omega arith in
      behind_counts (length h + j) ∙ rw at (get_or-append-add (x ++ h) (e ++ d) j 0)

  edge_word : (j : ℕ) → j < length e → get_or all (3 + (length h + j)) 0 ≡ get_or e j 0
  edge_word j l = behind_states j ∙ get_or-append e d 0 j l

  rest_word : (j : ℕ) → get_or all (3 + (length h + (length e + j))) 0 ≡ get_or d j 0
  rest_word j = behind_states (length e + j) ∙ get_or-append-add e d j 0

-- LAYING OUT: w are the words before, v those once the edges have moved up
module _
    {bits : ℕ} (n k m : ℕ) (w v : List ℕ) (asks : LayOutAsks bits w n k m) (long : length v ≡ length w)
    (moved : (i d : ℕ) → 3 + 2 * n ≤ i → i < 3 + 2 * n + (3 + 3 * m - 3) → get_or v i d ≡ get_or w (3 + (i - (3 + 2 * n))) d)
    (beyond : (i d : ℕ) → 3 + 2 * n + (3 + 3 * m - 3) ≤ i → get_or v i d ≡ get_or w i d) (back : List ℕ)
    (behind : (i d : ℕ) → get_or back i d ≡ get_or v (3 + 2 * n + i) d) (rest : length back + (3 + 2 * n) ≡ length v) where
  abbrev edges : List ℕ
  edges = take (3 * m) back

  -- a word of an edge, and one behind them
  moved_word : (j i : ℕ) → i ≡ 3 + j → j < 3 * m → get_or edges j 0 ≡ get_or w i 0
  moved_word j i e l =
      let at : 3 + (3 + 2 * n + j - (3 + 2 * n)) ≡ i = omega arith in
      get_or-take (3 * m) back j 0 l ∙ behind j 0 ∙ rw at at (moved (3 + 2 * n + j) 0 (omega arith) (omega arith))

  rest_zero : (j : ℕ) → get_or (drop (3 * m) back) j 0 ≡ 0
  rest_zero j =
      let room = asks.room in
      get_or-drop (3 * m) back j 0
      ∙ behind (3 * m + j) 0
      ∙ beyond (3 + 2 * n + (3 * m + j)) 0 (omega arith)
      ∙ asks.beyond (3 + 2 * n + (3 * m + j)) (omega arith)

  edges_long : length edges ≡ 3 * m
  edges_long = let room = asks.room.room in length-take-le (3 * m) back (omega arith)

  many : length edges / 3 ≡ m
  many = let long = edges_long in omega arith

  pub laid_links : {states : List ℕ} → length states ≡ 2 * n → ((i : ℕ) → get_or states i 0 ≡ 0) → LinkAsks bits states edges
  laid_links {states} wide clear =
      let long = edges_long in
      let fits = asks.room.edges_fit in
      record {
        whole = omega arith;
        fit = omega arith;
        source =
            λ r l.
            let word = moved_word (3 * r + 2) (5 + 3 * r) (omega arith) (omega arith) in let state = asks.source r (omega arith) in
            omega arith;
        empty = λ q l. clear (2 * q + 1);
      }

  laid_edges : edges_in edges m ≡ triples_of w m
  unfolding edges_in triple_at
  laid_edges =
      tabulate_same m _ (triple_at w)
      (λ r l.
      cc (
        moved_word (2 + 3 * r) (5 + 3 * r) (omega arith) (omega arith),
        moved_word (3 * r) (3 + 3 * r) (omega arith) (omega arith),
        moved_word (1 + 3 * r) (4 + 3 * r) (omega arith) (omega arith),
      ))

  -- once all is linked and counted
  module _
      (counts : List ℕ) {states states_now edges_now : List ℕ} (three : length counts ≡ 3) (wide : length states ≡ 2 * n) (clear : (i : ℕ) → get_or states i 0 ≡ 0)
      (links : Linked (length edges / 3) states edges states_now edges_now) (wide_now : length states_now ≡ length states)
      (long_now : length edges_now ≡ length edges) where
    abbrev laid : List ℕ
    laid = parts n k m counts states_now edges_now (drop (3 * m) back)

    state_is : (i j : ℕ) → i ≡ 3 + j → j < 2 * n → get_or laid i 0 ≡ get_or states_now j 0
    state_is i j e l = rw e (state_word n k m counts states_now edges_now (drop (3 * m) back) three j (omega arith))

    edge_is : (i j : ℕ) → i ≡ 3 + 2 * n + j → j < 3 * m → get_or laid i 0 ≡ get_or edges_now j 0
    edge_is i j e l =
        let long = edges_long in
        let at : i ≡ 3 + (length states_now + j) = omega arith in
        rw at (edge_word n k m counts states_now edges_now (drop (3 * m) back) three j (omega arith))

    rest_is : (i j : ℕ) → i ≡ 3 + 2 * n + 3 * m + j → get_or laid i 0 ≡ 0
    rest_is i j e =
        let long = edges_long in
        let at : i ≡ 3 + (length states_now + (length edges_now + j)) = omega arith in
        rw at (rest_word n k m counts states_now edges_now (drop (3 * m) back) three j ∙ rest_zero j)

    -- a word of an edge that is no next
    edge_kept : (i j x : ℕ) → i ≡ 3 + 2 * n + j → x ≡ 3 + j → j < 3 * m → ((r : ℕ) → j ≡ 3 * r + 2 → ⊥) → get_or laid i 0 ≡ get_or w x 0
    edge_kept i j x e f l d = edge_is i j e l ∙ links.others j (λ r a b. d r b) ∙ moved_word j x f l

    laid_indexed : Indexed (plain n k) (triples_of w m) laid
    unfolding plain flags flags_word with_counts triple_at an_edge edge_at
    laid_indexed =
        let long = tabulate_length m (triple_at w) in
        record {
          states = refl;
          letters = refl;
          records = sym long;
          flags =
              λ i l.
              state_is (3 + 2 * i) (2 * i) (omega arith) (omega arith) ∙ links.flags (2 * i) (λ q e. omega arith) ∙ clear (2 * i);
          head =
              λ i l.
              state_is (4 + 2 * i) (2 * i + 1) (omega arith) (omega arith) ∙ rw (many, laid_edges) at (links.heads i (omega arith));
          letter =
              λ r l.
              rw (tabulate_at m (triple_at w) r (an_edge 0 0 0) (rw long at l))
              (edge_kept (3 + 2 * n + 3 * r) (3 * r) (3 + 3 * r) (omega arith) (omega arith) (omega arith) (λ s e. omega arith));
          target =
              λ r l.
              rw (tabulate_at m (triple_at w) r (an_edge 0 0 0) (rw long at l))
              (edge_kept (4 + 2 * n + 3 * r) (1 + 3 * r) (4 + 3 * r) (omega arith) (omega arith) (omega arith) (λ s e. omega arith));
          next =
              λ r l.
              edge_is (5 + 2 * n + 3 * r) (3 * r + 2) (omega arith) (omega arith)
              ∙ rw (many, laid_edges) at (links.nexts r (let all = many in omega arith));
          beyond = λ i l. rest_is i (i - (3 + 2 * n + 3 * m)) (omega arith);
        }

    laid_long : length laid ≡ length w
    unfolding with_counts
    laid_long =
        let room = asks.room.room in
        let e = edges_long in
        let a = length-append counts states_now in
        let b = length-append edges_now (drop (3 * m) back) in
        let c = length-append (counts ++ states_now) (edges_now ++ drop (3 * m) back) in
        let d = length-drop 3 ((counts ++ states_now) ++ (edges_now ++ drop (3 * m) back)) in
        let f = length-drop (3 * m) back in
        omega arith

    pub laid_out :
        {p z : List ℕ} → p ≡ [] → z ≡ with_counts n k m ((counts ++ (states_now ++ p)) ++ (edges_now ++ drop (3 * m) back)) →
        z ≡ filled (chained_words (plain n k) (triples_of w m)) w
    unfolding plain
    laid_out none is =
        let long = tabulate_length m (triple_at w) in
        let room = asks.room in
        rw (none, append-nil states_now) at is
        ∙ indexed_filled (plain n k) (triples_of w m) w laid laid_indexed laid_long (omega arith)

-- the words of the states are cut from the front, behind the counts
pub front_parts :
    (n : ℕ) (v front : List ℕ) → 3 + 2 * n ≤ length v → front ≡ take (3 + 2 * n) v →
    (length (take 3 front) ≡ 3) × (drop (length front - 3) (drop 3 front) ≡ [])
front_parts n v front inside is =
    let long = length-take-le (3 + 2 * n) v inside in
    let rest = length-drop 3 front in
    (length-take-le 3 front (rw is (omega arith)), drop_of_length-le (drop 3 front) (omega arith))
