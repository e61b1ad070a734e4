use Rattle.std.proofs.Common.{◌≡◌, ◌+◌, ◌<◌, ◌≤◌, length, arith, ap, sym, ◌∙◌, ℕ, Bool, true, false}
use Rattle.samoa_model.specs.Cells.{cells_of}
use Rattle.samoa_model.specs.declared.record.Ext.{Ext}
use Rattle.samoa_model.specs.Range.{IsExtOf}
use Rattle.samoa_invariant.specs.Runs.{state}
use Rattle.samoa_ticks.proofs.Opened.{item_there, item_named, some_same}
use Rattle.samoa_ticks.proofs.running.next_fitting.Goals as goal

pub fits-requires : goal.fits-requires
fits-requires g c =
    let within : c.args.at < length c.args.exts.now = omega (arith, c.requires.at, c.requires.within, c.if-at-most.false) in
    item_named (IsExtOf c.args.core.now.script) c.args.exts.now c.args.at c.index-exts-at.result within c.index-exts-at.is c.requires.named

pub returns-then-fits-clause-item : goal.returns-then-fits-clause-item
returns-then-fits-clause-item g c =
    let within : c.args.at < length c.args.exts.now = omega (arith, c.requires.at, c.requires.within, c.if-at-most.false) in
    item_there c.args.exts.now c.args.at c.index-exts-at.result within c.index-exts-at.is

pub returns-then-fits-clause-named : goal.returns-then-fits-clause-named
returns-then-fits-clause-named g c =
    let within : c.args.at < length c.args.exts.now = omega (arith, c.requires.at, c.requires.within, c.if-at-most.false) in
    item_named (IsExtOf c.args.core.now.script) c.args.exts.now c.args.at c.index-exts-at.result within c.index-exts-at.is c.requires.named

-- what isn't at most a number is above it
above : (held cells : ℕ) (b : Bool) → b ≡ false → (held ≤ cells → b ≡ true) → cells < held
above held cells b e fits = omega (arith, λ (le : held ≤ cells). clash b (fits le) e)
  where
    clash : (b : Bool) → b ≡ true → b ≡ false → ⊥
    clash b e f = cc

pub returns-else-fits-clause-none : goal.returns-else-fits-clause-none
returns-else-fits-clause-none g c ext more there =
    let within : c.args.at < length c.args.exts.now = omega (arith, c.requires.at, c.requires.within, c.if-at-most.false) in
    let own = item_there c.args.exts.now c.args.at c.index-exts-at.result within c.index-exts-at.is in
    let same : c.index-exts-at.result ≡ ext = some_same c.index-exts-at.result ext (sym own ∙ there) in
    let wide : c.args.core.now.cells < (state c.args.core.now).cells + cells_of c.args.core.now.script c.index-exts-at.result
    = above ((state c.args.core.now).cells + cells_of c.args.core.now.script c.index-exts-at.result) c.args.core.now.cells c.fits.result c.if-fits.false c.fits.ensures.1 in
    let cells = ap (λ (x : Ext). cells_of c.args.core.now.script x) same in
    omega (arith, wide, cells)
