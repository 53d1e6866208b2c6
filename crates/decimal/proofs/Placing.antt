-- Laws of bytes written into a lent buffer: texts one behind another, rows of them, digits, fields and lines. Assumes nothing.
use mathlib.Core.Path.{◌≡◌, refl, sym, ◌∙◌}
use mathlib.Core.List.{List, [], ◌∷◌, ◌++◌, append_assoc}
use Prim.Native.Nat.{ℕ, zero, suc, ◌+◌, ◌*◌, ◌-◌, ◌/◌, ◌%◌, ◌≤◌, ◌<◌}
use native.Mathlib.Omega.{arith}
use native.Mathlib.Nat.{mul-suc}
use native.Mathlib.Numerals.{add-one}
use lib.ListN.{length, get_or, take, drop, set, length-append, length-set}
use Rattle.std.proofs.lemmas.List.{take_more, flat_map_more}
use Rattle.std.proofs.lemmas.List.Edits.{sets-eq}
use lib.Seq.{drop-drop, sets, length-sets, take_all, length-take-le}
use Rattle.basics.specs.Rows.{rows}
use Rattle.std.specs.List.{flat_map}
use Rattle.basics.proofs.Lists.{sets_append, sets_last}
use Rattle.decimal.specs.Lines.{digit_zero, space, newline, number_bytes, field_bytes, Put, HasRoom, Appended, Places, line, decimal}
use Rattle.decimal.specs.declared.lines.Output.{Output}
use Rattle.decimal.proofs.Digits.{last_digits, length_last, decimal_last}

put_made :
    {before : List ℕ} {at most : ℕ} {bytes after : List ℕ} {end : ℕ} → after ≡ sets before at bytes → end ≡ at + length bytes →
    end ≤ at + most → end ≤ length after → Put before at most bytes after end
put_made {after = after} {end = end} t e n i =
    record { text = t; ends = e; near = n; inside = i; whole = sym (length-take-le end after i) }

-- a buffer keeps its length
pub same_length : {o o' xs : List ℕ} {at a end : ℕ} → Put o at a xs o' end → length o' ≡ length o
same_length {o} {xs = xs} {at = at} p = rw p.text (length-sets o at xs)

-- nothing
pub nothing_appended : (o : Output) → HasRoom o 0 → Appended o 0 [] o
nothing_appended o room = record { put = put_made refl (omega arith) (omega arith) (omega arith); same_buffer = refl }

-- one text behind another
pub then_appended :
    {o o' o'' : Output} {a b : ℕ} {xs ys : List ℕ} → Appended o a xs o' → Appended o' b ys o'' → Appended o (a + b) (xs ++ ys) o''
then_appended {o} {xs = xs} {ys = ys} first second =
    let p = first.put in let q = second.put in
    let e = p.ends in let f = q.ends in let n = p.near in let m = q.near in
    record {
      put =
          put_made (q.text ∙ rw (p.text, p.ends) (sym (sets_append xs ys o.buffer.now o.at)))
          (simp length-append (omega arith)) (omega arith) q.inside;
      same_buffer = second.same_buffer ∙ first.same_buffer;
    }

-- where there is room for more
pub appended_wider : {o o' : Output} {a : ℕ} {xs : List ℕ} (b : ℕ) → a ≤ b → Appended o a xs o' → Appended o b xs o'
appended_wider b l p =
    let put = p.put in
    let n = put.near in record { put = put_made put.text put.ends (omega arith) put.inside; same_buffer = p.same_buffer }

-- the room that is left
pub appended_room : {o o' : Output} {a : ℕ} {xs : List ℕ} (b : ℕ) → Appended o a xs o' → HasRoom o (a + b) → HasRoom o' b
appended_room b p room = let e = same_length p.put in let n = p.put.near in omega arith

-- one row more
pub row_appended :
    (f : ℕ → List ℕ) (i : ℕ) {o o' o'' : Output} {most : ℕ} → Appended o (most * i) (rows i f) o' → Appended o' most (f i) o'' →
    Appended o (most * (i + 1)) (rows (i + 1) f) o''
unfolding rows
row_appended f i {most = most} so_far row = rw (add-one, mul-suc most i) (then_appended so_far row)

-- a text copied into its place
pub text_put :
    {o xs : List ℕ} {at : ℕ} → at + length xs ≤ length o →
    Put o at (length xs) xs (take at o ++ (xs ++ drop ((at + length xs) - at) (drop at o))) (at + length xs)
text_put {o} {xs} {at} l =
    let e : (at + length xs) - at ≡ length xs = omega arith in
    let t = sets-eq xs o at l in
    let n : length (sets o at xs) ≡ length o = length-sets o at xs in
    rw (e, drop-drop (length xs) at o, ← append_assoc (take at o) xs (drop (at + length xs) o), ← t)
    (put_made refl refl (omega arith) (omega arith))

-- THE LOOP OF `number`: the digits before place i are still to come
pub record Writing (n : ℕ) (o : List ℕ) (at end i left : ℕ) (o_now : List ℕ) : Type 0 where
  pub above : at ≤ i
  pub below : i ≤ end
  pub left_over : sets o_now at (last_digits (i - at) left) ≡ sets o at (decimal n)
  pub same : length o_now ≡ length o

pub writing_start : {n count : ℕ} (o : List ℕ) (at : ℕ) → Places n count → Writing n o at (at + count) (at + count) n o
writing_start {n} {count} o at p =
    let e : (at + count) - at ≡ length (decimal n) = let c = p.counted in omega arith in
    record {
      above = omega arith;
      below = omega arith;
      left_over = rw (e, ← decimal_last n);
      same = refl;
    }

pub writing_turn :
    {n : ℕ} {o : List ℕ} {at end i left : ℕ} {o' : List ℕ} → at < i → Writing n o at end i left o' →
    Writing n o at end (i - 1) (left / 10) (set o' (i - 1) (digit_zero + left % 10))
unfolding last_digits
writing_turn {n} {o} {at} {end} {i} {left} {o'} l p =
    let k : i - at ≡ suc ((i - 1) - at) = omega arith in
    let xs = last_digits ((i - 1) - at) (left / 10) in
    let m : at + length (last_digits ((i - 1) - at) (left / 10)) ≡ i - 1 =
    rw (length_last ((i - 1) - at) (left / 10)) (omega arith) in
    let s = sets_last (last_digits ((i - 1) - at) (left / 10)) (digit_zero + left % 10) o' at in
    let b = p.below in
    record {
      above = omega arith;
      below = omega arith;
      left_over = sym (rw m at s) ∙ (rw k at p.left_over);
      same = rw (length-set o' (i - 1) (digit_zero + left % 10)) p.same;
    }

pub writing_end :
    {n count : ℕ} {o : List ℕ} {at i left : ℕ} {o' : List ℕ} → Places n count → at + number_bytes ≤ length o → i ≤ at →
    Writing n o at (at + count) i left o' → Put o at number_bytes (decimal n) o' (at + count)
unfolding last_digits
writing_end {n} {count} {o} {at} {i} {left} {o'} c h l p =
    let a = p.above in
    let z : i - at ≡ 0 = omega arith in
    let e = c.counted in let f = c.few in let s = p.same in
    put_made (rw z at p.left_over) (omega arith) (omega arith) (omega arith)

-- a number and the byte behind it
pub field_appended :
    (n b : ℕ) {o o' : Output} → HasRoom o field_bytes → Appended o number_bytes (decimal n) o' →
    Appended o field_bytes (decimal n ++ (b ∷ []))
    (record { buffer = record o'.buffer { now = set o'.buffer.now o'.at b }; at = o'.at + 1 })
field_appended n b {o} {o'} h a =
    let p = a.put in
    let s = same_length p in let e = p.ends in let f = p.near in
    record {
      put =
          put_made (rw (sets_append (decimal n) (b ∷ []) o.buffer.now o.at, p.text, p.ends)) (simp length-append (omega arith))
          (omega arith) (rw (length-set o'.buffer.now o'.at b) (omega arith));
      same_buffer = a.same_buffer;
    }

-- THE LINE: fields with a space behind each, and the last one with a newline
abbrev pub spaced : (field : ℕ) → List ℕ
spaced x = decimal x ++ (space ∷ [])

line_is :
    (xs : List ℕ) (n : ℕ) → length xs ≡ suc n → line xs ≡ flat_map spaced (take n xs) ++ (decimal (get_or xs n 0) ++ (newline ∷ []))
unfolding line
line_is [] n e = cc
line_is (x ∷ []) zero e = refl
line_is (x ∷ []) (suc n) e = absurd (omega arith)
line_is (x ∷ y ∷ ys) zero e = absurd (omega arith)
line_is (x ∷ y ∷ ys) (suc n) e =
    let front = flat_map spaced (take n (y ∷ ys)) in
    let last = decimal (get_or (y ∷ ys) n 0) ++ (newline ∷ []) in
    rw (line_is (y ∷ ys) n (omega arith))
    (sym (append_assoc (spaced x) front last ∙ append_assoc (decimal x) (space ∷ []) (front ++ last)))

-- THE LOOP OF `line`: the fields passed are written
pub line_turn :
    (front : List ℕ) (i : ℕ) {o o' o'' : Output} → i < length front → Appended o (field_bytes * i) (flat_map spaced (take i front)) o' →
    Appended o' field_bytes (spaced (get_or front i 0)) o'' → Appended o (field_bytes * (i + 1)) (flat_map spaced (take (i + 1) front)) o''
line_turn front i l so_far field =
    let more : field_bytes * (i + 1) ≡ field_bytes * i + field_bytes = omega arith in
    rw (more, take_more front i 0 l, ← flat_map_more spaced [] (take i front) (get_or front i 0)) (then_appended so_far field)

pub line_end :
    (xs : List ℕ) (i : ℕ) {o o' o'' : Output} → 1 ≤ length xs → i ≡ length (take (length xs - 1) xs) →
    Appended o (field_bytes * i) (flat_map spaced (take i (take (length xs - 1) xs))) o' →
    Appended o' field_bytes (decimal (get_or xs (length xs - 1) 0) ++ (newline ∷ [])) o'' →
    Appended o (field_bytes * length xs) (line xs) o''
line_end xs i some all so_far field =
    let front = take (length xs - 1) xs in
    let n : length (take (length xs - 1) xs) ≡ length xs - 1 = length-take-le (length xs - 1) xs (omega arith) in
    let more : field_bytes * length xs ≡ field_bytes * i + field_bytes = omega arith in
    let t = take_all i front (omega arith) in
    rw (more, line_is xs (length xs - 1) (omega arith), ← t) (then_appended so_far field)
