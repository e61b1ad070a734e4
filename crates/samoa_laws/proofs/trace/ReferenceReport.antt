-- The report of a script of the group stack, run by the prover: a broadcast of one node. The expected values come from an independent program.
use Rattle.std.specs.Prelude.{◌≡◌, false, [], ◌∷◌, ◌++◌, refl, codes}
use Rattle.std.specs.Fmt.{digits}
use Rattle.samoa_model.specs.declared.record.Cause.{Cause}
use Rattle.samoa_model.specs.declared.script.Script.{Script}
use Rattle.samoa_serial.specs.Lines.{ext_text, accepted_text, finished_text, refusal_line, waiting_text, sent_text, delivered_text, asked_text, end_text, state_text, total_text}
use Rattle.samoa_serial.specs.History.{batch}
use Rattle.samoa_serial.specs.Batch.{batch_after}
use Rattle.samoa_serial.specs.Ticks.{history_within, is_limited_by, is_limited_to, admitted_by, admitted_to}
use Rattle.samoa_serial.specs.Report.{comp_text, comps_text, node_text, states_text}
use Rattle.samoa_serial.specs.LimitedReport.{limit_text, report_to, report_in_full}
use Rattle.samoa_laws.specs.trace.Group.{event, group_changes, group_decls, group_events, group_micros}

abbrev one_cast : Script
one_cast = record {
  nodes = 1;
  ticks = 5;
  micros = group_micros;
  decls = group_decls;
  events = group_events;
  changes = group_changes;
  does = record { tick = 1; node = record { 0 = 0 }; cause = Cause.Event (event 14); args = 0 ∷ 7 ∷ [] } ∷ [];
  losses = [];
  crashes = [];
}

one_cast_reported : report_in_full one_cast false ≡
    codes "E 1 1 0 cast 0 7\n"
    ++ codes "Z 1 ok 1\n"
    ++ codes "E 2 2 0 wire 0 1 0 1 0 0 0 1 0 7\n"
    ++ codes "Z 2 ok\n"
    ++ codes "E 3 2 0 wire 0 2 1 1 1 0 0 0 1 0 7\n"
    ++ codes "Z 3 ok\n"
    ++ codes "E 4 3 0 wire 0 2 2 1 1 0 0 0 1 0 7\n"
    ++ codes "Z 4 ok\n"
    ++ codes "E 5 4 0 wire 0 2 3 1 1 0 0 0 1 0 7\n"
    ++ codes "D 5 repl 0 1 0 7\n"
    ++ codes "Z 5 ok\n"
    ++ codes "E 6 5 0 wire 0 1 0 2 1 1 0 0 1 0 7\n"
    ++ codes "Z 6 ok\n"
    ++ codes "S 0 link 5 5\n"
    ++ codes "S 0 fd 0\n"
    ++ codes "S 0 rb 2 2\n"
    ++ codes "S 0 cons 1 1\n"
    ++ codes "S 0 ab 2 0\n"
    ++ codes "S 0 sq 0 1\n"
    ++ codes "S 0 repl 0 1 1 0\n"
    ++ codes "S 0 views 0 1\n"
    ++ codes "N 6 1 0\n"
unfolding digits report_to comps_text comp_text states_text node_text history_within is_limited_to is_limited_by admitted_to admitted_by batch_after batch limit_text ext_text accepted_text finished_text refusal_line waiting_text sent_text delivered_text asked_text end_text state_text total_text
one_cast_reported = refl
