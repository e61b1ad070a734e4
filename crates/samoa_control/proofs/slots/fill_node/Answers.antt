use Rattle.std.proofs.Common.{◌≡◌, ◌<◌, ◌+◌, ◌∙◌, ap, arith, append-nil, length, sym, take, add-zero, List, ℕ}
use Rattle.std.proofs.lemmas.List.{take_all}
use Rattle.samoa_model.specs.declared.script.MicroDef.{MicroDef}
use Rattle.samoa_micro.specs.Covers.{count_of}
use Rattle.samoa_control.proofs.Draws.{kinds_in, covers_next, covers_rest, counts_more, filled_more}
use Rattle.samoa_control.proofs.slots.fill_node.Goals as goal

pub loop-micro-init : goal.loop-micro-init
loop-micro-init g c = record {
  filled = sym (append-nil c.args.boxes.now.items);
  counts = λ kind. sym (add-zero (count_of c.args.stock.now kind));
  covers = rw c.as_slice-micro-items.ensures c.requires;
}

pub drawn-requires : goal.drawn-requires
drawn-requires g c =
    let micros = c.as_slice-micro-items.result.now in
    let micro = c.micro-item.result in
    covers_next micros micro _ c.loop-micro.micro-index (omega arith) c.micro-item.is (c.loop-micro.invariant.covers micro.kind)

pub loop-micro-preserved : goal.loop-micro-preserved
loop-micro-preserved g c =
    let micros = c.as_slice-micro-items.result.now in
    let micro = c.micro-item.result in
    let i = c.loop-micro.micro-index in
    let within : i < length micros = omega arith in
    let so_far = c.loop-micro.invariant in
    record {
      filled = rw (c.in_ok-push.ensures.items, so_far.filled, c.in_ok-drawn.ensures.held, c.in_ok-setup.ensures)
          (filled_more c.args.script.now c.args.node.0 c.args.boxes.now.items micros micro i within c.micro-item.is);
      counts = λ kind. counts_more micros micro kind _ _ _ i within c.micro-item.is (so_far.counts kind) (c.drawn.ensures.counts kind);
      covers = λ kind. covers_rest micros micro kind _ _ i within c.micro-item.is (so_far.covers kind) (c.drawn.ensures.counts kind);
    }

pub returns-clause-counts : goal.returns-clause-counts
returns-clause-counts g c kind =
    let micros = c.as_slice-micro-items.result.now in
    let all : take c.loop-micro.micro-index micros ≡ micros = take_all c.loop-micro.micro-index micros c.loop-micro-test.false in
    let whole = ap (λ (ms : List MicroDef). kinds_in ms kind) (all ∙ c.as_slice-micro-items.ensures) in
    c.loop-micro.invariant.counts kind ∙ ap (λ (n : ℕ). count_of c.loop-micro.stock kind + n) whole
