-- `layout::lay_out` meets its contract: moving, clearing, linking and counting leave the chained words (Laying). Assumes nothing.
use Rattle.std.proofs.Common.{◌≡◌, ℕ, ◌*◌, ◌-◌, length, get_or, drop, length-drop, arith}
use Rattle.std.proofs.lemmas.List.{length-take-le}
use Rattle.basics.proofs.Clears.{zeros_at}
use Rattle.layout.proofs.Laying.{laid_links, laid_out, front_parts}
use Rattle.layout.proofs.lay_out.Goals as goal
use Rattle.layout.proofs.lay_out.Goals.{After-fill}

-- the words of the states, once cleared
wide : (c : After-fill) → length c.fill.new.items ≡ 2 * c.args.states
wide c =
    let front = c.split_at_mut-front.result.0.now in
    let rest = length-drop 3 front in
    let part = length-take-le (length front - 3) (drop 3 front) (omega arith) in
    omega (arith, c.split_at_mut-front.ensures.front_len, c.fill.auto.items)

clear : (c : After-fill) → (i : ℕ) → get_or c.fill.new.items i 0 ≡ 0
clear c i = rw c.fill.ensures (zeros_at _ i)

pub link-requires : goal.link-requires
link-requires c =
    let (moved, below, beyond) = c.copy_within.ensures.by_index in
    laid_links c.args.states c.args.letters c.args.edges c.args.words.now c.copy_within.new.self c.requires c.copy_within.auto.self moved beyond
    c.split_at_mut-front.result.1.now c.split_at_mut-front.ensures.by_index.1 c.split_at_mut-front.ensures.back_len
    (wide (goal.at.link-requires c).After-fill) (clear (goal.at.link-requires c).After-fill)

pub returns : goal.returns
returns c =
    let (moved, below, beyond) = c.copy_within.ensures.by_index in
    laid_out c.args.states c.args.letters c.args.edges c.args.words.now c.copy_within.new.self c.requires c.copy_within.auto.self moved beyond
    c.split_at_mut-front.result.1.now c.split_at_mut-front.ensures.by_index.1 c.split_at_mut-front.ensures.back_len _
    (front_parts _ _ _ (let room = c.requires.room.room in let same = c.copy_within.auto.self in omega arith) c.split_at_mut-front.ensures.front).0
    (wide (goal.at.returns c).After-fill) (clear (goal.at.returns c).After-fill)
    c.link.ensures c.link.auto.states c.link.auto.edges
    (front_parts _ _ _ (let room = c.requires.room.room in let same = c.copy_within.auto.self in omega arith) c.split_at_mut-front.ensures.front).1
    c.write_counts.ensures
