use Rattle.samoa_serial.proofs.LimitLaws.{admitted_by-known, admitted_by-none, admitted_by-ticks, admitted_to-begins, is_limited_by-none, passed_admits, passed_limits, tick_admits, tick_passes}
use Rattle.samoa_serial.proofs.laws.ticks_add_up_to_the_limit.Goals as goal

pub returns : goal.returns
returns c = record {
  none = λ most script. (admitted_by-none most script, is_limited_by-none most script);
  adds = tick_admits;
  passes = tick_passes;
  begins = admitted_to-begins;
  stays = λ most script tick le passed. (passed_admits most script tick le passed, passed_limits most script tick le passed);
  ticks = admitted_by-ticks;
  known = admitted_by-known;
}
