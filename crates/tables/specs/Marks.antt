-- Naming records, for refusal 9: one pass over the links, with a bit for each record that was named already. What the functions answer.
-- Assumes nothing: these are definitions.
use Rattle.std.specs.Prelude.{◌≡◌, Option, Some, None, Bool, true, false, List, ℕ, suc, ◌+◌, ◌*◌, ◌/◌, ◌%◌, ◌^◌, ◌≤◌, ◌<◌, eqb, length}
use Rattle.basics.specs.Bounded.{each, count}
use Rattle.basics.specs.Packed.{packed, raised}
use Rattle.basics.specs.Words.{word_bits}
use Rattle.tables.specs.Table.{n_of, m_of, head_of, next_of, head_good, next_good}

-- the bits of a word of marks
abbrev pub mark_bits : ℕ
mark_bits = 32

-- where a record's mark stands among so many words: bit x / words of word x % words. Records that follow each other have their marks in
-- different words, so that marking one need not wait until the other is stored
unfoldable pub mark_place : (words number : ℕ) → ℕ
mark_place k x = mark_bits * (x % k) + x / k

-- a record's mark: one bit of a word
unfoldable pub mark_of : (words : ℕ) → (seen : List ℕ) → (number : ℕ) → ℕ
mark_of k w x = packed 2 mark_bits w (mark_place k x)

-- how many of the records from 1 to m are marked
unfoldable pub marks : (words m : ℕ) → (seen : List ℕ) → ℕ
marks k m w = count m (λ i. eqb (mark_of k w (suc i)) 1)

-- what marking a link asks: the words are there, and the record has a bit among them
pub record MarkAsks (words link : ℕ) (seen : List ℕ) : Type 0 where
  pub some : 1 ≤ words
  pub long : words ≤ length seen
  pub inside : link < mark_bits * words

-- one link, and how many records it marks: zero names nothing, a record not named so far is marked; one that was named already is refused
pub data Mark (words link : ℕ) (before after : List ℕ) : Option ℕ → Type 0 where
  nothing : link ≡ 0 → after ≡ before → Mark words link before after (Some 0)
  first :
      1 ≤ link → mark_of words before link ≡ 0 → after ≡ raised 2 mark_bits before (mark_place words link) 1 →
      Mark words link before after (Some 1)
  again : 1 ≤ link → mark_of words before link ≡ 1 → after ≡ before → Mark words link before after None

-- after k links: each mark has grown by how often they name its record, and so many records more are marked
pub record Marked (words : ℕ) (link : ℕ → ℕ) (k m names : ℕ) (before after : List ℕ) : Type 0 where
  pub kept : length after ≡ length before
  pub adds : (x : ℕ) → 1 ≤ x → x ≤ m → mark_of words after x ≡ mark_of words before x + count k (λ i. eqb (link i) x)
  pub counted : marks words m after ≡ marks words m before + names

-- k links, each of which must pass a test: all do, each names a record that no other names, and the answer is how many are named;
-- or one fails, or some record is named a second time, and there is no answer
pub data Names (words : ℕ) (good : ℕ → Bool) (link : ℕ → ℕ) (k m : ℕ) (before after : List ℕ) : Option ℕ → Type 0 where
  all : {names : ℕ} → each k good ≡ true → Marked words link k m names before after → Names words good link k m before after (Some names)
  wrong : each k good ≡ false → Names words good link k m before after None
  twice :
      (x : ℕ) → 1 ≤ x → x ≤ m → 2 ≤ mark_of words before x + count k (λ i. eqb (link i) x) →
      Names words good link k m before after None

-- the heads of a table, and its nexts
abbrev pub HeadsNamed : (words : ℕ) → (table before after : List ℕ) → (answer : Option ℕ) → Type 0
HeadsNamed k t = Names k (head_good t) (head_of t) (n_of t) (m_of t)

abbrev pub NextsNamed : (words : ℕ) → (table before after : List ℕ) → (answer : Option ℕ) → Type 0
NextsNamed k t = Names k (next_good t) (λ i. next_of t (suc i)) (m_of t) (m_of t)

-- as many words as give each record of a 16-bit table its bit
abbrev pub mark_words : ℕ
mark_words = 2 ^ word_bits / mark_bits
