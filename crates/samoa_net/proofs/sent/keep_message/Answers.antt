use Rattle.std.proofs.Common.{◌≡◌, ◌≤◌, ◌∙◌, ℕ, ◌+◌, refl, ◌∷◌, [], List, ◌++◌, ap, append-nil, arith, length, sym, take}
use Rattle.std.specs.Prelude.{filter}
use Rattle.std.specs.List.{range_with_len}
use Rattle.std.proofs.lemmas.List.{take_all}
use Rattle.std.proofs.lemmas.List.FromFn.{filter_of_map_range_with_len_more}
use Rattle.samoa_model.specs.declared.record.Ext.{Ext}
use Rattle.samoa_net.specs.Gathered.{most_kept}
use Rattle.samoa_net.specs.Messages.{admission_at, reaches}
use Rattle.samoa_net.proofs.Kept.{kept_then}
use Rattle.samoa_net.proofs.Messages.{arrived, arrived-is}
use Rattle.samoa_net.proofs.sent.keep_message.Goals as goal

pub loop-offset-init : goal.loop-offset-init
loop-offset-init c =
    let olds = c.reserve.new.self.items in
    let same : olds ≡ c.args.sent.now.items = c.in_ok-reserve.ensures.items in
    let few : length olds ≤ most_kept = omega (arith, ap length same, c.requires.few) in
    record {
      kept = sym (ap (take most_kept) (append-nil olds) ∙ take_all most_kept olds few);
      few = few;
      room = omega (arith, c.in_ok-reserve.ensures.ok);
    }

pub loop-offset-preserved : goal.loop-offset-preserved
loop-offset-preserved c =
    let first = c.receivers-first.result.0 in
    let offset = c.loop-offset.offset in
    let olds = c.reserve.new.self.items in
    let message = c.args.message.now in
    let script = c.args.script.now in
    let so_far : List Ext = arrived script message (range_with_len first offset) in
    let one_of : Ext → List Ext = λ (x : Ext). filter (reaches script message) (x ∷ []) in
    let next : arrived script message (range_with_len first (offset + 1)) ≡ so_far ++ one_of (admission_at message (first + offset)) =
    filter_of_map_range_with_len_more (reaches script message) (admission_at message) first offset (first + offset) refl in
    record {
      kept =
          c.keep_arrival.ensures.kept ∙ ap (λ (x : Ext). take most_kept (c.loop-offset.sent.items ++ one_of x)) c.arrival-arrival.ensures
          ∙ kept_then most_kept olds so_far (one_of (admission_at message (first + offset))) c.loop-offset.sent.items c.loop-offset.invariant.kept
          ∙ ap (λ (xs : List Ext). take most_kept (olds ++ xs)) (sym next);
      few = c.keep_arrival.ensures.few;
      room = omega (arith, c.keep_arrival.ensures.one, c.keep_arrival.ensures.room);
    }

pub returns-clause-kept : goal.returns-clause-kept
returns-clause-kept c =
    let first = c.receivers-first.result.0 in
    let message = c.args.message.now in
    let script = c.args.script.now in
    let all : c.loop-offset.offset ≡ c.receivers-first.result.1 = omega arith in
    c.loop-offset.invariant.kept
    ∙ ap (λ (xs : List Ext). take most_kept (xs ++ arrived script message (range_with_len first c.loop-offset.offset))) c.in_ok-reserve.ensures.items
    ∙ ap (λ (ns : List ℕ). take most_kept (c.args.sent.now.items ++ arrived script message ns))
    (ap (range_with_len first) all ∙ c.receivers-first.ensures.are)
    ∙ ap (λ (xs : List Ext). take most_kept (c.args.sent.now.items ++ xs)) (sym (arrived-is script message c.args.to))
