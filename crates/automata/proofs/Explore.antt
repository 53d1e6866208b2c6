-- Exploring a system finds exactly what docs/RULES.md, "Numbering and result", asks for: `explore_exactly`. Assumes nothing.
use mathlib.Core.Path.{◌≡◌, refl, sym, ◌∙◌, ap, subst}
use mathlib.Core.List.{List, [], ◌∷◌, ◌++◌, append_assoc, append-nil}
use mathlib.Core.Logic.{inl, inr}
use Prim.Native.Nat.{ℕ, zero, suc, ◌+◌, ◌≤◌, ◌<◌}
use native.Mathlib.Omega.{arith}
use lib.Dec.{leb}
use lib.ListN.{length, length-append, get_or-append}
use lib.Seq.{append_snoc, get_or-append_seam}
use Rattle.basics.proofs.Booleans.{either, leb_le, leb_gt, le_leb, gt_leb, same_or, below_or}
use Rattle.automata.specs.System.{System, Decides, Member, here, there, Reached, at_start, onward}
use Rattle.automata.specs.System.{state_at, Distinct, AtMost, Edge, an_edge, Built, built, number_of, with_state, with_states}
use Rattle.automata.specs.System.{add_edge, add_all, by_letters, expand, explore_from, begin, explore, edges_to, edges_on, edges_of, edge_at, Exactly}
use Rattle.automata.proofs.Members.{Prefix, prefix_self, prefix_then, prefix_length, prefix_take}
use Rattle.automata.proofs.Members.{member_at, number_found, number_member, number_prefix, listed_prefix, state_prefix}
use Rattle.automata.proofs.Members.{with_cases, with_prefix, with_number, with_listed, with_distinct, with_each, distinct_once}
use Rattle.automata.proofs.Members.{with_states_listed, with_states_new}
use Rattle.automata.proofs.Growth.{grows_all, grows_letters}

-- every state of the second list is in the first
pub record Covers {X : Type 0} (s : System X) (xs ys : List X) : Type 0 where
  pub lists : (y : X) → Member y ys → number_of s.same y xs < length xs

-- the successors of the states with numbers below the limit are listed
pub record ClosedBelow {X : Type 0} (s : System X) (limit : ℕ) (xs : List X) : Type 0 where
  pub covers : (i : ℕ) → i < limit → (c : ℕ) → c < s.letters → Covers s xs (s.nexts (state_at s xs i) c)

-- the first edge that leads to a state: all targets before are smaller
abbrev pub FirstEdge : List Edge → ℕ → Type 0
FirstEdge es i =
    (r : ℕ) × (r < length es) × ((edge_at es r).target ≡ i) × ((q : ℕ) → q < r → (edge_at es q).target < i)

-- at any moment of exploring: initial states stand first, every listed state is reached and listed once,
-- every edge leads to a listed state, and each further state has the edge that found it
pub record Sound {X : Type 0} (s : System X) (b : Built X) : Type 0 where
  pub first : Prefix s.starts b.states
  pub distinct : Distinct s b.states
  pub reached : (i : ℕ) → i < length b.states → Reached s (state_at s b.states i)
  pub targets : (r : ℕ) → r < length b.edges → (edge_at b.edges r).target < length b.states
  pub discovery : (i : ℕ) → length s.starts ≤ i → i < length b.states → FirstEdge b.edges i

-- between states: of those with numbers below the limit the successors are listed and the edges recorded, and no other edge is
pub record Explored {X : Type 0} (s : System X) (limit : ℕ) (b : Built X) : Type 0 where
  pub sound : Sound s b
  pub inside : limit ≤ length b.states
  pub closed : ClosedBelow s limit b.states
  pub edges : b.edges ≡ edges_of s b.states limit

-- EDGES BY RECORD NUMBER when one more is appended
pub edge_kept : (es more : List Edge) (r : ℕ) → r < length es → edge_at (es ++ more) r ≡ edge_at es r
unfolding edge_at
edge_kept es more r l = get_or-append es more (an_edge 0 0 0) r l

pub edge_last : (es : List Edge) (e : Edge) → edge_at (es ++ (e ∷ [])) (length es) ≡ e
unfolding edge_at
edge_last es e = get_or-append_seam es e [] (an_edge 0 0 0)

first_kept : (es : List Edge) (e : Edge) (i : ℕ) → FirstEdge es i → FirstEdge (es ++ (e ∷ [])) i
first_kept es e i (r, l, q, before) = (
  r,
  rw length-append (omega arith),
  rw (edge_kept es (e ∷ []) r l) q,
  λ k m. rw (edge_kept es (e ∷ []) k (omega arith)) (before k m),
)

first_new :
    (es : List Edge) (e : Edge) → ((r : ℕ) → r < length es → (edge_at es r).target < e.target) →
    FirstEdge (es ++ (e ∷ [])) e.target
first_new es e before = (
  length es,
  rw length-append (omega arith),
  rw (edge_last es e),
  λ k m. rw (edge_kept es (e ∷ []) k m) (before k m),
)

targets_snoc :
    (es : List Edge) (e : Edge) (n m : ℕ) → ((r : ℕ) → r < length es → (edge_at es r).target < n) → n ≤ m → e.target < m →
    (r : ℕ) → r < length (es ++ (e ∷ [])) → (edge_at (es ++ (e ∷ [])) r).target < m
targets_snoc es e n m old grown new r l =
    elim (below_or r (length es)) [
      | inl l' ↦
          let h = old r l' in rw (edge_kept es (e ∷ []) r l') (omega arith)
      | inr g ↦
          let l' : r < length es + 1 = rw length-append at l in
          let q : r ≡ length es = omega arith in rw (q, edge_last es e) new
    ]

module _ {X : Type 0} (s : System X) where
  covers_prefix : {xs all ys : List X} → Prefix xs all → Covers s xs ys → Covers s all ys
  covers_prefix p h = record { lists = λ y m. listed_prefix s.same y p (h.lists y m) }

  -- THE CLOSED FORM OF THE EDGES stays when further states are appended
  edges_to_kept :
      {xs all : List X} → Prefix xs all → (i c : ℕ) (ys : List X) → Covers s xs ys → edges_to s.same all i c ys ≡ edges_to s.same xs i c ys
  unfolding edges_to
  edges_to_kept p i c [] h = refl
  edges_to_kept p i c (y ∷ ys) h =
      rw (number_prefix s.same y p (h.lists y here), edges_to_kept p i c ys (record { lists = λ z m. h.lists z (there m) }))

  edges_on_kept :
      {xs all : List X} → Prefix xs all → (limit i : ℕ) (x : X) → ((c : ℕ) → c < limit → Covers s xs (s.nexts x c)) →
      edges_on s all limit i x ≡ edges_on s xs limit i x
  unfolding edges_on
  edges_on_kept p zero i x h = refl
  edges_on_kept p (suc c) i x h =
      rw (edges_on_kept p c i x (λ d l. h d (omega arith)), edges_to_kept p i c (s.nexts x c) (h c (omega arith)))

  pub edges_of_kept :
      {xs all : List X} → Prefix xs all → (limit : ℕ) → limit ≤ length xs → ClosedBelow s limit xs →
      edges_of s all limit ≡ edges_of s xs limit
  unfolding edges_of
  edges_of_kept p zero l h = refl
  edges_of_kept p (suc i) l h =
      rw (
        state_prefix s p i l,
        edges_of_kept p i (omega arith) (record { covers = λ k l. h.covers k (omega arith) }),
        edges_on_kept p s.letters i _ (h.covers i (omega arith)),
      )

  -- A STEP OF EXPLORING keeps what was found, and goes on from there
  add_all_states : (i c : ℕ) (ys : List X) (b : Built X) → (add_all s.same i c ys b).states ≡ with_states s.same ys b.states
  unfolding add_all with_states add_edge built
  add_all_states i c [] b = refl
  add_all_states i c (y ∷ ys) b = add_all_states i c ys (add_edge s.same i c y b)

  -- EXPLORING unfolded: one state is handled if there is one left, and else it has ended
  pub explore_step :
      (f i : ℕ) (b : Built X) → i < length b.states → explore_from (suc f) s i b ≡ explore_from f s (suc i) (expand s i b)
  unfolding explore_from
  explore_step f i b l = rw (gt_leb l, explore_from)

  pub explore_end : (f i : ℕ) (b : Built X) → length b.states ≤ i → explore_from f s i b ≡ b
  unfolding explore_from
  explore_end zero i b l = refl
  explore_end (suc f) i b l = rw (le_leb l, explore_from)

  -- no more states are found than are reached
  pub exactly_distinct : (b : Built X) → Exactly s b → Distinct s b.states
  exactly_distinct b h =
      record { apart = λ i j l m e. let q = h.once i j (omega arith) m e in omega arith }

  pub exactly_at_most : (b : Built X) (m : ℕ) → Exactly s b → AtMost s m → length b.states ≤ m
  exactly_at_most b m h most = most.bound b.states (exactly_distinct b h) h.reached

  pub sound_at_most : (b : Built X) (m : ℕ) → Sound s b → AtMost s m → length b.states ≤ m
  sound_at_most b m h most = most.bound b.states h.distinct h.reached

  module _ (decides : Decides s) where
    add_all_covers : (i c : ℕ) (ys : List X) (b : Built X) → Covers s (add_all s.same i c ys b).states ys
    add_all_covers i c ys b =
        record { lists = λ y m. rw (add_all_states i c ys b) (with_states_listed s decides b.states m) }

    add_all_edges :
        (i c : ℕ) (ys : List X) (b : Built X) →
        (add_all s.same i c ys b).edges ≡ b.edges ++ edges_to s.same (add_all s.same i c ys b).states i c ys
    unfolding add_all edges_to add_edge built
    add_all_edges i c [] b = sym (append-nil b.edges)
    add_all_edges i c (y ∷ ys) b =
        let b' = add_edge s.same i c y b in
        let n : number_of s.same y (add_all s.same i c ys b').states ≡ number_of s.same y b.states =
        number_prefix s.same y (grows_all s.same i c ys b').states
        (rw (with_number s decides y b.states) (with_listed s decides y b.states))
        ∙ with_number s decides y b.states
        in
        add_all_edges i c ys b'
        ∙ append_snoc b.edges (an_edge i c (number_of s.same y b.states)) (edges_to s.same (add_all s.same i c ys b').states i c ys)
        ∙ rw n refl

    by_letters_covers :
        (limit i : ℕ) (x : X) (b : Built X) (c : ℕ) → c < limit →
        Covers s (by_letters s limit i x b).states (s.nexts x c)
    unfolding by_letters
    by_letters_covers zero i x b c l = absurd (omega arith)
    by_letters_covers (suc d) i x b c l =
        let before = by_letters s d i x b in
        elim (same_or c d) [
          | inl e ↦ rw e (add_all_covers i d (s.nexts x d) before)
          | inr ne ↦
              covers_prefix (grows_all s.same i d (s.nexts x d) before).states (by_letters_covers d i x b c (omega arith))
        ]

    by_letters_edges :
        (limit i : ℕ) (x : X) (b : Built X) →
        (by_letters s limit i x b).edges ≡ b.edges ++ edges_on s (by_letters s limit i x b).states limit i x
    unfolding by_letters edges_on
    by_letters_edges zero i x b = sym (append-nil b.edges)
    by_letters_edges (suc c) i x b =
        let before = by_letters s c i x b in
        let all = (add_all s.same i c (s.nexts x c) before).states in
        let kept = edges_on_kept (grows_all s.same i c (s.nexts x c) before).states c i x (by_letters_covers c i x b) in
        let new = edges_to s.same all i c (s.nexts x c) in
        add_all_edges i c (s.nexts x c) before
        ∙ ap (λ (es : List Edge). es ++ new) (by_letters_edges c i x b)
        ∙ append_assoc b.edges (edges_on s before.states c i x) new
        ∙ rw kept refl

    -- one edge more, to a reached state
    pub sound_edge :
        (i c : ℕ) (y : X) (b : Built X) → Reached s y → Sound s b → Sound s (add_edge s.same i c y b)
    unfolding add_edge built an_edge
    sound_edge i c y b ry h =
        record {
          first = prefix_then h.first (with_prefix s.same y b.states);
          distinct = with_distinct s decides y b.states h.distinct;
          reached = with_each s (λ x. Reached s x) y b.states h.reached ry;
          targets =
              targets_snoc b.edges e (length b.states) (length (with_state s.same y b.states)) h.targets
              (prefix_length (with_prefix s.same y b.states)) (with_listed s decides y b.states);
          discovery =
              with_cases s.same (λ l. (k : ℕ) → length s.starts ≤ k → k < length l → FirstEdge (b.edges ++ (e ∷ [])) k) y b.states
              (λ _. kept) new;
        }
      where
        e : Edge
        e = an_edge i c (number_of s.same y b.states)

        kept : (k : ℕ) → length s.starts ≤ k → k < length b.states → FirstEdge (b.edges ++ (e ∷ [])) k
        kept k m l = first_kept b.edges e k (h.discovery k m l)

        new :
            number_of s.same y b.states ≡ length b.states → (k : ℕ) → length s.starts ≤ k →
            k < length (b.states ++ (y ∷ [])) → FirstEdge (b.edges ++ (e ∷ [])) k
        new q k m l =
            elim (below_or k (length b.states)) [
              | inl d ↦ kept k m d
              | inr g ↦
                  let l' : k < length b.states + 1 = rw length-append at l in
                  let z : number_of s.same y b.states ≡ k = omega arith in
                  subst (λ (n : ℕ). FirstEdge (b.edges ++ (e ∷ [])) n) z
                  (first_new b.edges e (λ r m. rw q (h.targets r m)))
            ]

    pub sound_all :
        (i c : ℕ) (ys : List X) (b : Built X) → ((y : X) → Member y ys → Reached s y) → Sound s b → Sound s (add_all s.same i c ys b)
    unfolding add_all
    sound_all i c [] b ry h = h
    sound_all i c (y ∷ ys) b ry h =
        sound_all i c ys (add_edge s.same i c y b) (λ z m. ry z (there m)) (sound_edge i c y b (ry y here) h)

    pub sound_letters :
        (limit i : ℕ) (x : X) (b : Built X) → limit ≤ s.letters → Reached s x → Sound s b → Sound s (by_letters s limit i x b)
    unfolding by_letters
    sound_letters zero i x b l rx h = h
    sound_letters (suc c) i x b l rx h =
        sound_all i c (s.nexts x c) (by_letters s c i x b) (λ y m. onward c rx l m)
        (sound_letters c i x b (omega arith) rx h)

    -- ONE STATE MORE is handled
    pub explored_step : (i : ℕ) (b : Built X) → i < length b.states → Explored s i b → Explored s (suc i) (expand s i b)
    unfolding expand by_letters edges_of
    explored_step i b l h =
        record {
          sound = sound_letters s.letters i x b (omega arith) (h.sound.reached i l) h.sound;
          inside = let g = prefix_length p in omega arith;
          closed = record { covers = covers };
          edges =
              by_letters_edges s.letters i x b
              ∙ rw
              (state_prefix s p i l, edges_of_kept p i h.inside h.closed)
              (ap (λ (es : List Edge). es ++ edges_on s (by_letters s s.letters i x b).states s.letters i x) h.edges);
        }
      where
        x : X
        x = state_at s b.states i

        p : Prefix b.states (by_letters s s.letters i x b).states
        p = (grows_letters s 0 s.letters i x b (omega arith)).states

        covers :
            (k : ℕ) → k < suc i → (c : ℕ) → c < s.letters →
            Covers s (by_letters s s.letters i x b).states (s.nexts (state_at s (by_letters s s.letters i x b).states k) c)
        covers k m c lc =
            rw (state_prefix s p k (omega arith))
            (elim (same_or k i) [
              | inl e ↦ rw e (by_letters_covers s.letters i x b c lc)
              | inr ne ↦ covers_prefix p (h.closed.covers k (omega arith) c lc)
            ])

    -- the initial states alone
    pub begin_is : Distinct s s.starts → begin s ≡ built s.starts []
    unfolding begin
    begin_is distinct = rw (with_states_new s decides s.starts [] distinct)

    pub explored_begin : Distinct s s.starts → Explored s 0 (begin s)
    unfolding built edges_of
    explored_begin distinct =
        rw (begin_is distinct)
        (record {
          sound =
              record {
                first = prefix_self s.starts;
                distinct = distinct;
                reached = λ i l. at_start (member_at s s.starts i l);
                targets = λ r l. absurd (omega arith);
                discovery = λ i m l. absurd (omega arith);
              };
          inside = omega arith;
          closed = record { covers = λ i l. absurd (omega arith) };
          edges = refl;
        })

    -- THE END: once every listed state is handled, exactly the system was found
    closed_found : (b : Built X) → Explored s (length b.states) b → (x : X) → Reached s x → number_of s.same x b.states < length b.states
    closed_found b h x (at_start m) = listed_prefix s.same x h.sound.first (number_member s decides m)
    closed_found b h y (onward {x = x} c r l m) =
        let n = closed_found b h x r in
        (h.closed.covers (number_of s.same x b.states) n c l).lists y (rw (number_found s decides x b.states n) m)

    pub explored_exactly : (b : Built X) → Explored s (length b.states) b → Exactly s b
    explored_exactly b h =
        record {
          reached = h.sound.reached;
          found =
              λ x r.
              let n = closed_found b h x r in (number_of s.same x b.states, n, number_found s decides x b.states n);
          once = distinct_once s decides b.states h.sound.distinct;
          starts = prefix_take h.sound.first;
          edges = h.edges;
          discovery = h.sound.discovery;
        }

    explored_end :
        (f i : ℕ) (b : Built X) → length b.states ≤ i → Explored s i b →
        Explored s (length (explore_from f s i b).states) (explore_from f s i b)
    explored_end f i b l h =
        let g = h.inside in
        let q : i ≡ length b.states = omega arith in rw (explore_end f i b l) (rw q at h)

    -- with fuel for all reached states every listed state is handled at the end
    pub explored_all :
        (f i m : ℕ) (b : Built X) → AtMost s m → m ≤ i + f → Explored s i b →
        Explored s (length (explore_from f s i b).states) (explore_from f s i b)
    explored_all zero i m b most enough h =
        let g = most.bound b.states h.sound.distinct h.sound.reached in explored_end zero i b (omega arith) h
    explored_all (suc f) i m b most enough h =
        elim (either (leb (length b.states) i)) [
          | inl e ↦ explored_end (suc f) i b (leb_le (length b.states) i e) h
          | inr e ↦
              let l = leb_gt (length b.states) i e in
              rw (explore_step f i b l)
              (explored_all f (suc i) m (expand s i b) most (omega arith) (explored_step i b l h))
        ]

    -- docs/RULES.md, "Numbering and result": exploring lists every reached state once, initial states first, then in the order of discovery,
    -- and every edge between them, by source, letter and successor
    pub explore_exactly :
        Distinct s s.starts → {fuel : ℕ} → AtMost s fuel → Exactly s (explore fuel s)
    unfolding explore
    explore_exactly distinct {fuel} most =
        explored_exactly (explore fuel s) (explored_all fuel 0 fuel (begin s) most (omega arith) (explored_begin distinct))
