-- That the laws need their premise: a list of admissions in which each of two nodes receives a message that nobody sent, and they
-- decide differently. All else that makes a group history holds of it.
use Rattle.std.proofs.Common.{◌≡◌, ◌≤◌, ℕ, refl, ap, arith, List, [], ◌∷◌, length, append-nil, sym, Some}
use Rattle.samoa_model.specs.Range.{IsExtOf}
use Rattle.samoa_model.specs.declared.record.Cause.{Cause}
use Rattle.samoa_model.specs.declared.record.Ext.{Ext}
use Rattle.samoa_model.specs.declared.script.Script.{Script}
use Rattle.samoa_serial.specs.Lists.{Each}
use Rattle.samoa_serial.specs.declared.message.Message.{Message}
use Rattle.samoa_laws.specs.trace.Group.{IsGroup, IsGroupHistory, event, group_changes, group_decls, group_events, group_micros}
use Rattle.samoa_laws.specs.consensus.Decided.{decided_at}
use Rattle.samoa_laws.proofs.consensus.Decided.{decisions}

script : Script
script = record {
  nodes = 2;
  ticks = 5;
  micros = group_micros;
  decls = group_decls;
  events = group_events;
  changes = group_changes;
  does = [];
  losses = [];
  crashes = [];
}

message : ℕ → Message
message value = record { epoch = 0; origin = 1; number = 1; kind = 0; value = value }

-- from node 1 on the channel of reliable broadcast: its cast number 7, which announces that instance 1 decided this message
forged : ℕ → ℕ → Ext
forged node value = record { node = record { 0 = node }; tick = 1; cause = Cause.Event (event 0); args = 1 ∷ 1 ∷ 1 ∷ 7 ∷ 1 ∷ 1 ∷ 0 ∷ 1 ∷ 1 ∷ 0 ∷ value ∷ [] }

exts : List Ext
exts = forged 0 5 ∷ forged 1 6 ∷ []

-- two decisions of one instance
at_the_first : decided_at script exts 0 1 ≡ Some (message 5)
unfolding script exts forged message
at_the_first = refl

at_the_second : decided_at script exts 1 1 ≡ Some (message 6)
unfolding script exts forged message
at_the_second = refl

they_differ : message 5 ≡ message 6 → ⊥
unfolding message
they_differ e =
    let value : ◌≡◌ {A = ℕ} 5 6 = ap (λ (m : Message). m.value) e in
    omega (arith, value)

-- ---- all but that the messages were sent
of_the_stack : IsGroup script
unfolding script
of_the_stack = record { micros = refl; decls = refl; events = refl; changes = refl; does = tt }

few : length exts ≤ 100000
unfolding exts
few = omega arith

known : Each (IsExtOf script) exts
unfolding script exts forged
known = (record { node = omega arith; cause = omega arith }, (record { node = omega arith; cause = omega arith }, tt))

arrive : Each (λ (ext : Ext). ext.cause ≡ Cause.Event (event 0)) exts
unfolding exts forged
arrive = (refl, (refl, tt))

-- so it is no group history: its nodes would agree
no_history : IsGroup script × (length exts ≤ 100000) × Each (IsExtOf script) exts × Each (λ (ext : Ext). ext.cause ≡ Cause.Event (event 0)) exts
    × (IsGroupHistory script exts → ⊥)
no_history = (
  of_the_stack,
  few,
  known,
  arrive,
  λ history.
      they_differ (decisions script exts exts [] exts [] 0 1 1 (message 5) (message 6) history (sym (append-nil exts)) (sym (append-nil exts)) at_the_first at_the_second),
)
