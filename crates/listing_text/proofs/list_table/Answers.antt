-- `list_table` writes the answer to a table. Assumes nothing.
use mathlib.Core.Path.{◌≡◌}
use Prim.Native.Nat.{ℕ, ◌*◌}
use lib.ListN.{replicate, length-replicate}
use Rattle.record_words.specs.Record.{record_words}
use Rattle.complement.specs.Build.{lent, room_of}
use Rattle.listing_text.specs.Listing.{most_states, most_words, listing_room}
use Rattle.listing_text.proofs.Whole.{room_for, printable, answer_appended}
use Rattle.listing_text.proofs.list_table.Goals as goal

-- the room that the build is lent
lent_room : room_of (lent (replicate most_words 0) (replicate (record_words * most_states) 0)) ≡ listing_room
lent_room =
    let sets_words = record_words * most_states in
    room_for (replicate most_words 0) (replicate sets_words 0) (length-replicate {A = ℕ} most_words 0)
    (length-replicate {A = ℕ} sets_words 0)

pub put_answer-requires-clause-printable_answer : goal.put_answer-requires-clause-printable_answer
unfolding record_words
put_answer-requires-clause-printable_answer c =
    printable c.build_complement-answer.ensures lent_room c.build_complement-answer.auto.words c.build_complement-answer.auto.sets

pub returns : goal.returns
unfolding record_words
returns c = answer_appended c.build_complement-answer.ensures lent_room c.put_answer.ensures
