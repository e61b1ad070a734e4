-- What is known of the versions of a core by its invariant.
use Rattle.std.proofs.Common.{arith, ◌≡◌, ℕ, suc, ◌+◌, ◌*◌, ◌<◌, ◌≤◌, length, get_or, Some}
use Rattle.samoa_invariant.specs.Inv.{Invariant, IsOutRightly}
use Rattle.samoa_invariant.specs.Play.{Play, version}
use Rattle.samoa_invariant.specs.State as model
use Rattle.samoa_invariant.specs.Runs.{Trace, play, state}
use Rattle.samoa_invariant.proofs.representation.Scripted.{get_is}
use Rattle.samoa_invariant.proofs.representation.Traces.{invariant}
use Rattle.samoa_invariant.proofs.preservation.Versions.{version-mono}
use Rattle.samoa_control.specs.Kept.{Fields, Kept, trace_of}
use Rattle.samoa_control.proofs.Grids.{grid-within}

-- a microprotocol of a node has its place among the versions
pub slot-within : (fs : Fields) (v p : ℕ) → Kept fs → v < fs.script.nodes → p < length fs.script.micros
    → v * length fs.script.micros + p < length fs.global
slot-within fs v p kept lt below =
    let within : v * length fs.script.micros + p < fs.script.nodes * length fs.script.micros = grid-within fs.script.nodes (length fs.script.micros) v p lt below in
    let size : length fs.global ≡ fs.script.nodes * length fs.script.micros = kept.holds.global.size in
    omega (arith, within, size)

-- what is read there is the version of the state
pub global-is : (fs : Fields) (v p : ℕ) → Kept fs → v < fs.script.nodes → p < length fs.script.micros
    → get_or fs.global (v * length fs.script.micros + p) 0 ≡ (state (trace_of fs)).global v p
global-is fs v p kept lt below =
    get_is {A = ℕ} fs.global (v * length fs.script.micros + p) ((state (trace_of fs)).global v p) 0 (kept.holds.global.value v p lt below)

pub local-is : (fs : Fields) (v p : ℕ) → Kept fs → v < fs.script.nodes → p < length fs.script.micros
    → get_or fs.local (v * length fs.script.micros + p) 0 ≡ (state (trace_of fs)).local v p
local-is fs v p kept lt below =
    get_is {A = ℕ} fs.local (v * length fs.script.micros + p) ((state (trace_of fs)).local v p) 0 (kept.holds.local.value v p lt below)

-- where a box is out, a version that was given is not done with
pub out-below : (fs : Fields) (k v p : ℕ) → Kept fs → v < fs.script.nodes → p < length fs.script.micros → (state (trace_of fs)).out v p ≡ Some k
    → get_or fs.local (v * length fs.script.micros + p) 0 < get_or fs.global (v * length fs.script.micros + p) 0
out-below fs k v p kept lt below out =
    let t : Trace = trace_of fs in
    let P : Play = play t in
    let core : model.Core = state t in
    let i : Invariant P core = invariant t kept.is_run in
    let o : IsOutRightly P core v p k = i.out v p k out in
    let local : core.local v p < version P (suc k) v p = o.owns.below in
    let order : version P (suc k) v p ≤ version P core.count v p = version-mono P (suc k) core.count v p o.admitted in
    let global : core.global v p ≡ version P core.count v p = i.versions.global v p in
    let here = local-is fs v p kept lt below in
    let there = global-is fs v p kept lt below in
    omega (arith, local, order, global, here, there)
