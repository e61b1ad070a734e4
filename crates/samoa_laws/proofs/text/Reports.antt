-- What a report tells.
use Rattle.std.proofs.Common.{refl, ℕ, Bool, List, [], codes, Option, Some, None}
use Rattle.samoa_model.specs.declared.ids.EventId.{EventId}
use Rattle.samoa_model.specs.declared.ids.HandlerId.{HandlerId}
use Rattle.samoa_model.specs.declared.handler.Dest.{Dest}
use Rattle.samoa_model.specs.declared.handler.Refusal.{Refusal}
use Rattle.samoa_model.specs.declared.handler.Reply.{Reply}
use Rattle.samoa_model.specs.declared.record.Cause.{Cause}
use Rattle.samoa_model.specs.declared.record.Ending.{Ending}
use Rattle.samoa_model.specs.declared.script.Script.{Script}
use Rattle.samoa_model.specs.Handlers.{handler_text, own_name}
use Rattle.samoa_model.specs.Scripts.{micro_at, event_at, change_at}
use Rattle.samoa_serial.specs.Lines.{refusal_text, refused_text, dest_text, cause_name, accepted_text, finished_text, refusal_line, waiting_text, sent_text, asked_text, ending_text, end_text, state_text, total_text}
use Rattle.samoa_serial.specs.LimitedReport.{limit_text}
use Rattle.samoa_laws.proofs.text.Texts.{Lacks, Plain, literal, space, both, number, words}
use Rattle.samoa_laws.proofs.text.Tells.{Tells, tells_other}

-- no name of a script has a line feed, and that of a microprotocol no space
pub record IsClean (script : Script) : Type 0 where
  pub micro : (p : ℕ) → Plain (micro_at script p).name
  pub micro_field : (p : ℕ) → Lacks 32 (micro_at script p).name
  pub handler : (handler : HandlerId) → Plain (own_name script handler)
  pub event : (e : ℕ) → Plain (event_at script e).name
  pub change : (c : ℕ) → Plain (change_at script c).name

handler_plain : (script : Script) → IsClean script → (handler : HandlerId) → Plain (handler_text script handler)
handler_plain script clean handler =
    both (both (clean.micro handler.micro.0) (literal (codes ".") refl)) (clean.handler handler)

refusal_plain : (refusal : Refusal) → Plain (refusal_text refusal)
refusal_plain Refusal.OverBudget = literal (codes "OverBudget") refl
refusal_plain Refusal.Unbound = literal (codes "Unbound") refl
refusal_plain Refusal.Undeclared = literal (codes "Undeclared") refl
refusal_plain Refusal.OverBound = literal (codes "OverBound") refl
refusal_plain Refusal.OffRoute = literal (codes "OffRoute") refl

refused_plain : (script : Script) → IsClean script → (event : Option EventId) → Plain (refused_text script event)
refused_plain script clean (Some event) = clean.event event.0
refused_plain script clean None = literal (codes "-") refl

dest_plain : (to : Dest) → Plain (dest_text to)
dest_plain (Dest.One node) = number node.0
dest_plain Dest.All = literal (codes "*") refl

ending_plain : (ending : Ending) → Plain (ending_text ending)
ending_plain (Ending.Replied (Reply.Words ws)) = both (literal (codes " ok") refl) (words ws)
ending_plain (Ending.Replied (Reply.Refused refusal)) = both (literal (codes " no ") refl) (refusal_plain refusal)
ending_plain Ending.Cut = literal (codes " cut") refl

pub cause_plain : (script : Script) → IsClean script → (cause : Cause) → Plain (cause_name script cause)
cause_plain script clean (Cause.Event event) = clean.event event.0
cause_plain script clean (Cause.Change change) = clean.change change.0

-- ---- the lines that head no computation and tell no delivery
module _ (v : ℕ) (name : List ℕ) (here : Bool) (script : Script) (clean : IsClean script) (comp : ℕ) where
  pub accepted_tells : (call caller : ℕ) (handler : HandlerId) (arg : List ℕ) → Tells v name here (accepted_text script comp call caller handler arg) here []
  unfolding accepted_text
  accepted_tells call caller handler arg =
      tells_other v name here
      (both (both (both (both (both (both (both (both (literal (codes "C ") refl) (number comp)) space) (number call)) space) (number caller)) space)
      (handler_plain script clean handler)) (words arg))
      refl refl

  pub finished_tells : (call : ℕ) (ws : List ℕ) → Tells v name here (finished_text comp call ws) here []
  unfolding finished_text
  finished_tells call ws =
      tells_other v name here (both (both (both (both (literal (codes "Y ") refl) (number comp)) space) (number call)) (words ws)) refl refl

  pub refused_tells : (caller : ℕ) (event : Option EventId) (refusal : Refusal) → Tells v name here (refusal_line script comp caller event refusal) here []
  unfolding refusal_line
  refused_tells caller event refusal =
      tells_other v name here
      (both (both (both (both (both (both (both (literal (codes "X ") refl) (number comp)) space) (number caller)) space) (refused_plain script clean event)) space)
      (refusal_plain refusal))
      refl refl

  pub waiting_tells : (call : ℕ) (event : EventId) (arg : List ℕ) → Tells v name here (waiting_text script comp call event arg) here []
  unfolding waiting_text
  waiting_tells call event arg =
      tells_other v name here
      (both (both (both (both (both (both (literal (codes "W ") refl) (number comp)) space) (number call)) space) (clean.event event.0)) (words arg))
      refl refl

  pub sent_tells : (call : ℕ) (to : Dest) (event : EventId) (arg : List ℕ) → Tells v name here (sent_text script comp call to event arg) here []
  unfolding sent_text
  sent_tells call to event arg =
      tells_other v name here
      (both (both (both (both (both (both (both (both (literal (codes "M ") refl) (number comp)) space) (number call)) space) (dest_plain to)) space) (clean.event event.0))
      (words arg))
      refl refl

  pub asked_tells : (call change : ℕ) (arg : List ℕ) → Tells v name here (asked_text script comp call change arg) here []
  unfolding asked_text
  asked_tells call change arg =
      tells_other v name here
      (both (both (both (both (both (both (literal (codes "A ") refl) (number comp)) space) (number call)) space) (clean.change change)) (words arg))
      refl refl

  pub end_tells : (ending : Ending) → Tells v name here (end_text comp ending) here []
  unfolding end_text
  end_tells ending = tells_other v name here (both (both (literal (codes "Z ") refl) (number comp)) (ending_plain ending)) refl refl

  pub state_tells : (p : ℕ) (ws : List ℕ) → Tells v name here (state_text script comp p ws) here []
  unfolding state_text
  state_tells p ws =
      tells_other v name here (both (both (both (both (literal (codes "S ") refl) (number comp)) space) (clean.micro p)) (words ws)) refl refl

pub total_tells : (v : ℕ) (name : List ℕ) (here : Bool) (comps deliveries refusals : ℕ) → Tells v name here (total_text comps deliveries refusals) here []
unfolding total_text
total_tells v name here comps deliveries refusals =
    tells_other v name here (both (both (both (both (both (literal (codes "N ") refl) (number comps)) space) (number deliveries)) space) (number refusals)) refl refl

pub limit_tells : (v : ℕ) (name : List ℕ) (here : Bool) (most : ℕ) → Tells v name here (limit_text most) here []
unfolding limit_text
limit_tells v name here most = tells_other v name here (both (literal (codes "L ") refl) (number most)) refl refl
