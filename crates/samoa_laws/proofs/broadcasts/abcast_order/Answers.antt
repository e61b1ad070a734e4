use Rattle.samoa_laws.proofs.broadcasts.AbcastHistories as laws
use Rattle.samoa_laws.proofs.broadcasts.abcast_order.Goals as goal

pub returns : goal.returns
returns c = record { prefix = laws.orders_agree; shape = laws.order_is; valid = laws.called_was_decided }
