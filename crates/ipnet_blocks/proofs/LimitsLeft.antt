-- What a subnet iterator stores are limits.
use Rattle.std.proofs.Common.{◌+◌, ◌^◌, inl, inr, sym, subst, arith}
use Rattle.std.proofs.lemmas.Nat.{pow_pos}
use Rattle.std.proofs.lemmas.Bool.{cases_lt, cases_eq}
use Rattle.ipnet_addr.specs.Addresses.{width}
use Rattle.ipnet_blocks.specs.Cuts.{AreLimits, first_free}
use Rattle.ipnet_blocks.specs.Laws.{LimitsStay}
use Rattle.ipnet_blocks.proofs.Cuts.{after_greatest, after_last, after_more, after_none}

pub limits_stay : LimitsStay
limits_stay f l h =
    let w = width f in
    let n = l.start + 2 ^ first_free w l in
    let some = pow_pos w in
    let top = h.end_in_range in
    elim (cases_lt l.end l.start) [
      | inl lt ↦ subst (AreLimits f) (sym (after_none w l lt)) h
      | inr le ↦ elim (cases_lt n (2 ^ w)) [
        | inr ge ↦ subst (AreLimits f) (sym (after_greatest w l le ge)) (record { start_in_range = omega arith; end_in_range = omega arith; in_width = h.in_width })
        | inl lt ↦ elim (cases_eq l.start l.end) [
          | inl e ↦ subst (AreLimits f) (sym (after_last w l le lt e)) (record { start_in_range = lt; end_in_range = omega arith; in_width = h.in_width })
          | inr other ↦ subst (AreLimits f) (sym (after_more w l le lt other)) (record { start_in_range = lt; end_in_range = top; in_width = h.in_width })
        ]
      ]
    ]
