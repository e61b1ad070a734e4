use Rattle.samoa_serial.proofs.CodeLaws.{entries_are_known}
use Rattle.samoa_serial.proofs.RangeLaws.{admitted_in_range}
use Rattle.samoa_serial.proofs.TicksLaws.{admitted-few, admitted-all, each_admitted}
use Rattle.samoa_serial.proofs.laws.admissions_have_their_origin.Goals as goal

pub returns : goal.returns
returns c = record {
  few = admitted-few;
  all = admitted-all;
  origin = each_admitted;
  known = λ most script range. admitted_in_range most script range (entries_are_known script range);
}
