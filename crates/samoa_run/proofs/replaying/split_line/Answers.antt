use Rattle.std.proofs.Common.{◌∙◌, sym}
use Rattle.std.proofs.lemmas.List.{take_rest}
use Rattle.samoa_run.proofs.Splitting.{found, nowhere}
use Rattle.samoa_run.proofs.replaying.split_line.Goals as goal

pub returns-in-Some-clause-line : goal.returns-in-Some-clause-line
returns-in-Some-clause-line c = sym (found c.in-Some.at c.args.text.now c.in-Some.ensures).line

pub returns-in-Some-clause-rest : goal.returns-in-Some-clause-rest
returns-in-Some-clause-rest c = take_rest c.args.text.now _ ∙ sym (found c.in-Some.at c.args.text.now c.in-Some.ensures).rest

pub returns-in-None-clause-line : goal.returns-in-None-clause-line
returns-in-None-clause-line c = sym (nowhere c.args.text.now c.in-None.ensures).line

pub returns-in-None-clause-rest : goal.returns-in-None-clause-rest
returns-in-None-clause-rest c = sym (nowhere c.args.text.now c.in-None.ensures).rest
