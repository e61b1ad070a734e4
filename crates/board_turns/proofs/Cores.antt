-- A core in which the items of a script are admitted.
use Rattle.std.proofs.Common.{◌≡◌, ℕ, ◌+◌, ◌-◌, ◌<◌, true, List, [], ap, arith, length, take, ◌∙◌}
use Rattle.samoa_invariant.specs.Runs.{Trace, state}
use Rattle.samoa_invariant.specs.State.{AllEnded, NothingOut}
use Rattle.samoa_control.specs.Later.{IsStill}
use Rattle.samoa_control.specs.Since.{admissions, cleared_comps, last_of}

pub none_cleared : (t : Trace) → t.clears ≡ [] → cleared_comps t ≡ 0
unfolding cleared_comps
none_cleared t e = ap (λ (clears : List ℕ). admissions (take (last_of 0 clears) t.journal)) e

pub still_home : (before after : Trace) → NothingOut (state before) → IsStill (state before) after → NothingOut (state after)
still_home before after home still v p = still.out v p ∙ home v p

pub ended_before : (core : Trace) (count before : ℕ) → AllEnded (state core) → (state core).count ≡ length core.exts → count ≡ length core.exts → before < count
    → (state core).ended (before + 1 - 1) ≡ true
ended_before core count before all counted is lt =
    let place : before + 1 - 1 ≡ before = omega arith in
    ap (λ k. (state core).ended k) place ∙ all before (omega (arith, counted))
