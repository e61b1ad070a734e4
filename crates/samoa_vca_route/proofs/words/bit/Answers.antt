use Rattle.samoa_vca_route.proofs.Masking.{bit_tells}
use Rattle.samoa_vca_route.proofs.words.bit.Goals as goal

pub returns-then-micro-lt32 : goal.returns-then-micro-lt32
returns-then-micro-lt32 c = bit_tells c.args.micro c.if-micro-lt32.true
