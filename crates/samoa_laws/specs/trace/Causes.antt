-- What a handler step of a trace comes from, and which step follows which.
use Rattle.std.specs.Prelude.{◌≡◌, ◌<◌, ◌≤◌, ◌⊎◌, ℕ, true, List, [], ◌∷◌, ◌++◌, length, Option, Some, None, ⊤}
use Rattle.samoa_model.specs.declared.ids.EventId.{EventId}
use Rattle.samoa_model.specs.declared.ids.HandlerId.{HandlerId}
use Rattle.samoa_model.specs.declared.handler.Moment.{Moment}
use Rattle.samoa_model.specs.declared.handler.Outcome.{Outcome}
use Rattle.samoa_model.specs.declared.handler.Refusal.{Refusal}
use Rattle.samoa_model.specs.declared.handler.Reply.{Reply}
use Rattle.samoa_model.specs.declared.record.Entry.{Entry}
use Rattle.samoa_model.specs.declared.record.Ext.{Ext}
use Rattle.samoa_model.specs.declared.script.Script.{Script}
use Rattle.samoa_model.specs.Allowed.{Attempt}
use Rattle.samoa_model.specs.Scripts.{decl_of, resolve, root_of, table_of}
use Rattle.samoa_serial.specs.declared.call.Call.{Call}
use Rattle.samoa_serial.specs.World.{Rules, States, begin, resume}
use Rattle.samoa_serial.specs.SerialRun.{opening_states, rules_of}
use Rattle.samoa_serial.specs.Lists.{Each, In}
use Rattle.samoa_laws.specs.trace.Trace.{HandlerStep, is_done, micro_of, state_at, trace}

-- what is fixed of a computation: how many stand before it, its node, its rules, the handlers of each event, and its
-- root event with the words that it is given
pub record Setting : Type 0 where
  pub comp : ℕ
  pub node : ℕ
  pub rules : Rules
  pub handlers : EventId → List HandlerId
  pub root : EventId
  pub arg : List ℕ

-- the setting of a computation that is admitted after these
abbrev pub setting_of : Script → List Ext → Ext → Setting
setting_of script before ext = record {
  comp = length before;
  node = ext.node.0;
  rules = rules_of script before ext;
  handlers = resolve (table_of script (before ++ ext ∷ []) ext.node.0);
  root = root_of script ext.cause;
  arg = ext.args;
}

-- the frame with which a call goes on, none of Done
abbrev pub frame_of : Outcome → Option (List ℕ)
frame_of (Outcome.Done reply) = None
frame_of (Outcome.Call event arg frame) = Some frame
frame_of (Outcome.Later event arg frame) = Some frame
frame_of (Outcome.Send to event arg frame) = Some frame
frame_of (Outcome.Deliver arg frame) = Some frame
frame_of (Outcome.Change change arg frame) = Some frame

-- a step of this computation that took effect
pub record Acts (S : Setting) (y : HandlerStep) : Type 0 where
  pub comp : y.comp ≡ S.comp
  pub node : y.node ≡ S.node
  pub effective : y.effective ≡ true

-- call c begins at moment m, called by the root event
pub record IsRoot (S : Setting) (c : Call) (m : Moment) : Type 0 where
  pub bound : In c.handler (S.handlers S.root)
  pub moment : m ≡ begin c S.arg

-- call c begins at moment m, called by the step y. The caller's number is less
pub record Calls (S : Setting) (y : HandlerStep) (c : Call) (m : Moment) : Type 0 where
  pub event : EventId
  pub arg : List ℕ
  pub frame : List ℕ
  pub acts : Acts S y
  pub outcome : y.outcome ≡ Outcome.Call event arg frame
  pub bound : In c.handler (S.handlers event)
  pub moment : m ≡ begin c arg
  pub less : y.call.number < c.number

-- call c begins at moment m, asked for by the step y to be called later
pub record Defers (S : Setting) (y : HandlerStep) (c : Call) (m : Moment) : Type 0 where
  pub event : EventId
  pub arg : List ℕ
  pub frame : List ℕ
  pub acts : Acts S y
  pub outcome : y.outcome ≡ Outcome.Later event arg frame
  pub bound : In c.handler (S.handlers event)
  pub moment : m ≡ begin c arg

-- call c goes on at moment m after its step y
pub record GoesOn (S : Setting) (y : HandlerStep) (c : Call) (m : Moment) : Type 0 where
  pub frame : List ℕ
  pub reply : Reply
  pub acts : Acts S y
  pub call : y.call ≡ c
  pub frame_is : frame_of y.outcome ≡ Some frame
  pub moment : m ≡ resume c frame reply

-- y called c, or is the step of c before this one
abbrev pub ComesFrom : Setting → HandlerStep → Call → Moment → Type 0
ComesFrom S y c m = Calls S y c m ⊎ GoesOn S y c m

-- moment m of call c comes from a call that b made, or from one of the steps since
abbrev pub ComesSince : Setting → HandlerStep → List HandlerStep → Call → Moment → Type 0
ComesSince S b since c m = Calls S b c m ⊎ ((from : HandlerStep) × In from since × ComesFrom S from c m)

-- each of these steps, the last one first, is of a call that b made, or comes from one of those before it: all of them
-- are steps within the calls that b made
abbrev pub Nested : Setting → HandlerStep → List HandlerStep → Type 0
Nested S b [] = ⊤
Nested S b (z ∷ since) = (z.comp ≡ S.comp) × (z.node ≡ S.node) × ComesSince S b since z.call z.moment × Nested S b since

-- call c goes on at moment m: its step before is `last`, and what came since is within the calls that `last` made
pub record Resumes (S : Setting) (past : List HandlerStep) (c : Call) (m : Moment) : Type 0 where
  pub last : HandlerStep
  pub since : List HandlerStep
  pub before : List HandlerStep
  pub split : past ≡ since ++ last ∷ before
  pub goes_on : GoesOn S last c m
  pub nested : Nested S last since

-- why moment m of call c comes, after these steps
pub data Cause (S : Setting) (past : List HandlerStep) (c : Call) (m : Moment) : Type 0 where
  Root : IsRoot S c m → Cause S past c m
  Called : (y : HandlerStep) → In y past → Calls S y c m → Cause S past c m
  Deferred : (y : HandlerStep) → In y past → Defers S y c m → Cause S past c m
  Resumed : Resumes S past c m → Cause S past c m

-- the call's handler stands in an event's list, after the first one
pub record IsOther (S : Setting) (c : Call) : Type 0 where
  pub event : EventId
  pub first : HandlerId
  pub others : List HandlerId
  pub list : S.handlers event ≡ first ∷ others
  pub bound : In c.handler others

-- when moment m of call c comes, after these steps: the call goes on; or it begins as one of its event's later handlers;
-- or right after the step that called it; or it is the first step of its computation; or a step asked for it
pub data Comes (S : Setting) (past : List HandlerStep) (c : Call) (m : Moment) : Type 0 where
  OnAgain : (frame : List ℕ) (reply : Reply) → m ≡ resume c frame reply → Comes S past c m
  AsOther : IsOther S c → Comes S past c m
  AtOnce : (y : HandlerStep) (before : List HandlerStep) → past ≡ y ∷ before → Calls S y c m → Comes S past c m
  AsFirst : IsRoot S c m → ((b : HandlerStep) → In b past → b.comp < S.comp) → Comes S past c m
  AsDeferred : (y : HandlerStep) → In y past → Defers S y c m → Comes S past c m

-- the first handler of an event begins
pub record BeginsFirst (S : Setting) (event : EventId) (arg : List ℕ) (c : Call) (m : Moment) : Type 0 where
  pub others : List HandlerId
  pub first : S.handlers event ≡ c.handler ∷ others
  pub moment : m ≡ begin c arg

-- the call of an event was refused, and the caller goes on
pub record IsRefused (S : Setting) (caller : Call) (event : EventId) (frame : List ℕ) (c : Call) (m : Moment) : Type 0 where
  pub entries : List Entry
  pub refusal : Refusal
  pub refuses : S.rules.attempt entries (Some caller) event ≡ Attempt.Refuses refusal
  pub call : c ≡ caller
  pub moment : m ≡ resume c frame (Reply.Refused refusal)

-- the same call goes on at once
pub record IsSame (caller : Call) (frame : List ℕ) (c : Call) (m : Moment) : Type 0 where
  pub call : c ≡ caller
  pub moment : m ≡ resume c frame (Reply.Words [])

-- the next step after one of this call that took effect with this outcome
abbrev pub Leads : Setting → Call → Outcome → Call → Moment → Type 0
Leads S caller (Outcome.Done reply) c m = ⊤
Leads S caller (Outcome.Call event arg frame) c m = BeginsFirst S event arg c m ⊎ IsRefused S caller event frame c m
Leads S caller (Outcome.Later event arg frame) c m = IsSame caller frame c m
Leads S caller (Outcome.Send to event arg frame) c m = IsSame caller frame c m
Leads S caller (Outcome.Deliver arg frame) c m = IsSame caller frame c m
Leads S caller (Outcome.Change change arg frame) c m = IsSame caller frame c m

-- a computation can end with this step: it is done, or took no effect
abbrev pub IsLast : HandlerStep → Type 0
IsLast x = x.effective ≡ true → is_done x.outcome ≡ true

abbrev pub EndsWell : List HandlerStep → Type 0
EndsWell [] = ⊤
EndsWell (x ∷ past) = IsLast x

-- the step before was this computation's, took effect and leads here
pub record IsNext (S : Setting) (b : HandlerStep) (c : Call) (m : Moment) : Type 0 where
  pub acts : Acts S b
  pub leads : Leads S b.call b.outcome c m

-- a computation begins: those before have ended, and the root event's first handler begins
pub record IsFirst (S : Setting) (past : List HandlerStep) (c : Call) (m : Moment) : Type 0 where
  pub ended : EndsWell past
  pub earlier : (b : HandlerStep) → In b past → b.comp < S.comp
  pub begins : BeginsFirst S S.root S.arg c m

abbrev pub IsNextIn : Setting → List HandlerStep → Call → Moment → Type 0
IsNextIn S [] c m = IsFirst S [] c m
IsNextIn S (b ∷ past) c m = IsNext S b c m ⊎ IsFirst S (b ∷ past) c m

-- the step x follows these steps
pub record Follows (S : Setting) (opening : ℕ → States) (past : List HandlerStep) (x : HandlerStep) : Type 0 where
  pub comp : x.comp ≡ S.comp
  pub node : x.node ≡ S.node
  pub old : x.old ≡ state_at opening past x.node (micro_of x)
  pub step : S.rules.step x.call.handler.micro x.old x.moment ≡ (x.new, x.outcome)
  pub cause : Cause S past x.call x.moment
  pub next : IsNextIn S past x.call x.moment
  pub comes : Comes S past x.call x.moment

-- the step x follows these steps, in a computation of these admissions: the steps before it are its computation's own
-- and the trace of the earlier computations
pub record FollowsIn (script : Script) (exts : List Ext) (past : List HandlerStep) (x : HandlerStep) : Type 0 where
  pub before : List Ext
  pub ext : Ext
  pub later : List Ext
  pub admitted : exts ≡ before ++ ext ∷ later
  pub own : List HandlerStep
  pub over : past ≡ own ++ trace script before
  pub own_steps : Each (λ (b : HandlerStep). (b.comp ≡ length before) × (b.node ≡ ext.node.0)) own
  pub follows : Follows (setting_of script before ext) (opening_states script) past x

-- each step follows those before it
abbrev pub IsTrace : Script → List Ext → List HandlerStep → Type 0
IsTrace script exts [] = ⊤
IsTrace script exts (x ∷ past) = FollowsIn script exts past x × IsTrace script exts past

-- each computation has a budget of at most b, and no event has more than four handlers
pub record IsSmall (script : Script) (b : ℕ) : Type 0 where
  pub budget : (ext : Ext) → (decl_of script ext).budget ≤ b
  pub few : (exts : List Ext) (node : ℕ) (event : EventId) → length (resolve (table_of script exts node) event) ≤ 4
