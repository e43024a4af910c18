-- `profile::forms::fill_form`: the walk over the places keeps `Walked`, and each way out of it is an end of `filled`.
use Prim.Native.Nat.{◌≤◌, ◌<◌}
use native.Mathlib.Omega.{arith}
use mathlib.Core.Path.{◌≡◌, sym, ◌∙◌}
use mathlib.Core.Logic.{◌⊎◌, inl, inr}
use mathlib.Core.Bool.{false}
use lib.ListN.{length, get_or}
use Rattle.rows.specs.Row.{among}
use Rattle.profile.specs.Front.{slot_at}
use Rattle.profile.proofs.Walks.{walk-stands, walk-skips, walk-stops, walk-overruns, walk_ends}
use Rattle.profile.proofs.forms.fill_form.Goals as goal
use Rattle.profile.proofs.forms.fill_form.Goals.{Joined-else-at-text, then-at-text+then-byte_fits, else-at-text+else-must_stand, else-at-text-via-then-at-text+else-byte_fits, else-at-text-via-else-at-text}

none-stands : (c : Joined-else-at-text)
    → (length c.args.text.now ≤ c.loop-k.at)
    ⊎ ((c.loop-k.at < length c.args.text.now) × (among (get_or c.args.text.now c.loop-k.at 0) (slot_at c.args.edition c.loop-k.k).bytes ≡ false))
none-stands c = elim c.else-at-text.branch [
  | else-at-text-via-then-at-text+else-byte_fits w ↦ inr (w.if-at-text.true, sym w.byte_fits.ensures ∙ w.if-byte_fits.false)
  | else-at-text-via-else-at-text w ↦ inl w.if-at-text.false
]

pub loop-k-preserved : goal.loop-k-preserved
loop-k-preserved c =
    let here = c.loop-k.invariant in
    elim c.if-at-text.branch [
      | then-at-text+then-byte_fits w ↦ rw (w.bytes-is, w.at-is) (here.0, walk-stands _ _ here.1 (omega (arith, here.0, c.loop-k-test.true)) w.if-at-text.true (sym w.byte_fits.ensures ∙ w.if-byte_fits.true))
      | else-at-text+else-must_stand w ↦
          let stands : (length c.args.text.now ≤ c.loop-k.at) ⊎ ((c.loop-k.at < length c.args.text.now) × (among (get_or c.args.text.now c.loop-k.at 0) (slot_at c.args.edition c.loop-k.k).bytes ≡ false)) = elim w.else-at-text.branch [
            | else-at-text-via-then-at-text+else-byte_fits v ↦ inr (v.if-at-text.true, sym v.byte_fits.ensures ∙ v.if-byte_fits.false)
            | else-at-text-via-else-at-text v ↦ inl v.if-at-text.false
          ] in
          rw (w.bytes-is, w.at-is) (here.0, walk-skips _ _ here.1 (omega (arith, here.0, c.loop-k-test.true)) stands (sym (w.must_stand.ensures c.args.edition) ∙ w.if-must_stand.false))
    ]

pub returns-then-must_stand : goal.returns-then-must_stand
returns-then-must_stand c =
    let here = c.loop-k.invariant in
    rw c.at.ensures (sym (walk-stops _ _ here.1 (omega (arith, here.0, c.loop-k-test.true)) (none-stands (goal.at.returns-then-must_stand c).Joined-else-at-text) (sym (c.must_stand.ensures c.args.edition) ∙ c.if-must_stand.true)))

pub returns-then-at-text-2 : goal.returns-then-at-text-2
returns-then-at-text-2 c =
    let here = c.loop-k.invariant in
    rw c.at-then-at-text-2.ensures (sym (walk-overruns _ _ here.1 (omega (arith, here.0, c.loop-k-test.false)) c.if-at-text-2.true))

pub returns : goal.returns
returns c =
    let here = c.loop-k.invariant in
    walk_ends _ _ here.1 (omega (arith, here.0, c.loop-k-test.false)) c.if-at-text-2.false
