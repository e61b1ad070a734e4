use Rattle.std.proofs.Common.{◌≡◌, sym, ◌∙◌, ap, subst, decimal, arith, IsUtf8, Ok}
use Rattle.std.specs.Result.{result_ok}
use Rattle.std.proofs.lemmas.Fmt.{parse-decimal, IsAscii-decimal}
use Rattle.std.proofs.lemmas.Str.{IsUtf8-from_ascii}
use Rattle.samoa_report.proofs.reading.read_numeral.Goals as goal

-- `parse` reads back what `decimal` writes
pub returns-in-Ok : goal.returns-in-Ok
returns-in-Ok c = record {
  decimal = λ number fits e.
      let read : c.parse.result ≡ Ok number = parse-decimal 32 number c.in-Ok.text.now c.parse.result fits (omega arith) (c.in-Ok.ensures.cases.0 ∙ e) c.parse.ensures.value.0 in
      c.ok.ensures.value ∙ ap result_ok read;
}

-- digits are text
pub returns-in-Err : goal.returns-in-Err
returns-in-Err c = record {
  decimal = λ number fits e. absurd (c.in-Err.ensures.cases.0 (subst IsUtf8 (sym e) (IsUtf8-from_ascii (decimal number) (IsAscii-decimal number (omega arith)))));
}
