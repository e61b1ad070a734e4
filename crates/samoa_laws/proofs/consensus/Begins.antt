-- A step of the trace that begins its handler.
use Rattle.std.proofs.Common.{◌≡◌, ℕ, refl, List, ◌∷◌, ◌++◌}
use Rattle.samoa_model.specs.declared.handler.Moment.{Moment}
use Rattle.samoa_model.specs.declared.record.Ext.{Ext}
use Rattle.samoa_model.specs.declared.script.Script.{Script}
use Rattle.samoa_laws.specs.trace.Trace.{HandlerStep, micro_of, trace}
use Rattle.samoa_laws.specs.trace.Causes.{FollowsIn}
use Rattle.samoa_laws.specs.trace.Group.{handler}
use Rattle.samoa_laws.specs.transport.Transport.{BeginsAt}
use Rattle.samoa_laws.proofs.transport.Carried.{begin_index, handler_is, moment_of}
use Rattle.samoa_laws.proofs.trace.Steps.{setting}

-- a step of the trace begins its handler
pub begins_at : (script : Script) (exts : List Ext) (more : List HandlerStep) (x : HandlerStep) (past : List HandlerStep) → trace script exts ≡ more ++ x ∷ past → FollowsIn script exts past x
    → (p i : ℕ) (arg : List ℕ) → micro_of x ≡ p → x.moment ≡ Moment.Begin i arg → BeginsAt script exts past x.node (handler p i) arg
begins_at script exts more x past split f p i arg micro begun = record {
  step = x;
  more = more;
  split = split;
  node_is = refl;
  handler_is = handler_is x.call.handler p i micro (begin_index x.call.handler x.moment i arg (moment_of (setting f) past x.call x.moment f.follows.cause) begun);
  moment = begun;
}
