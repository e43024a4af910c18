-- `text::put_full` meets its contract: zeros, and then the fewest digits that hold the number.
use Rattle.std.proofs.Common.{◌≡◌, ◌+◌, ◌-◌, ◌∙◌, ap, length, take, drop, arith, length-take, length-drop}
use Rattle.std.proofs.Math.ListN.{length-replicate}
use Rattle.reading.specs.Relation.{zeros}
use Rattle.text.proofs.Puts.{put_part, put-more, put_as}
use Rattle.text.proofs.Decimals.{few, filled}
use Rattle.text.proofs.put_full.Goals as goal

pub returns-clause-put : goal.returns-clause-put
returns-clause-put c =
    let d = c.decimal-k.ensures in
    let few = few _ _ d.len c.ranges.v.fits in
    let j = c.saturating_sub.result in
    let less : j ≡ c.args.n - c.decimal-k.result = c.saturating_sub.ensures in
    let at = c.args.at in
    let long : length (zeros j) ≡ j = length-replicate j 48 in
    let part : length (take (at + j - at) (drop at c.args.line.now)) ≡ j = omega (arith, length-take (at + j - at) (drop at c.args.line.now), length-drop at c.args.line.now) in
    let front = put_part c.args.line.now (zeros j) c.fill.new.self at (at + j) (omega arith) (c.fill.ensures.after (λ y h. h) ∙ ap zeros part) (omega arith) in
    put_as (rw (d.digits, less) (filled _ _ _ d.len c.ranges.v.fits)) (put-more front c.put_all.ensures)
