-- Decisions agree, in the words of the states.
use Rattle.std.proofs.Common.{◌≡◌, ℕ, refl, List, ◌++◌, Some}
use Rattle.samoa_model.specs.declared.record.Ext.{Ext}
use Rattle.samoa_model.specs.declared.script.Script.{Script}
use Rattle.samoa_serial.specs.Rows.{message_of}
use Rattle.samoa_serial.specs.SerialRun.{serial}
use Rattle.samoa_serial.specs.State.{OfCons, State}
use Rattle.samoa_serial.specs.declared.message.Message.{Message}
use Rattle.samoa_laws.specs.trace.Group.{IsGroupHistory}
use Rattle.samoa_laws.specs.consensus.AtBoxes.{cons_of}
use Rattle.samoa_laws.specs.consensus.Decisions.{HasDecided}
use Rattle.samoa_laws.proofs.consensus.Agreed.{agree}
use Rattle.samoa_laws.specs.consensus.Decided.{decided_at}

has_decided : (script : Script) (exts : List Ext) (v i : ℕ) (m : Message) → decided_at script exts v i ≡ Some m → HasDecided script exts v i m
has_decided script exts v i m is = go ((serial script exts).states v 3) refl is
  where
    go : (s : State) → (serial script exts).states v 3 ≡ s → message_of (cons_of s).decisions i ≡ Some m → HasDecided script exts v i m
    go (OfCons state) found e = record { state = state; found = found; decision = e }
    go other found e = absurd (cc)

pub decisions : (script : Script) (exts before after earlier later : List Ext) (v u i : ℕ) (m n : Message) → IsGroupHistory script exts
    → exts ≡ before ++ after → exts ≡ earlier ++ later → decided_at script before v i ≡ Some m → decided_at script earlier u i ≡ Some n → m ≡ n
decisions script exts before after earlier later v u i m n history is also mine yours =
    agree script exts before earlier history (record { rest = after; is = is }) (record { rest = later; is = also }) v u i m n
    (has_decided script before v i m mine) (has_decided script earlier u i n yours)
