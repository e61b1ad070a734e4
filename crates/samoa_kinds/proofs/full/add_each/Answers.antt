use Rattle.std.proofs.Common.{◌≡◌, ◌∙◌, List, ◌∷◌, [], ◌++◌, ap, map, subst, sym, true, take, append_assoc, get_or, rules, ◌<◌}
use Rattle.std.specs.List.{All}
use Rattle.std.proofs.lemmas.List.{map-append, take_more}
use Rattle.std.proofs.lemmas.List.Elements.{All-push}
use Rattle.samoa_model.specs.declared.setup.Kind.{Kind}
use Rattle.samoa_model.specs.declared.setup.Kind.TheVariants.{Prog}
use Rattle.samoa_micro.specs.Stocks.{all_kinds}
use Rattle.samoa_kinds.specs.contracts.any.AnyKindMicro.TheImpl.{ghosts}
use Rattle.samoa_kinds.proofs.full.add_each.Goals as goal

pub loop-kind-preserved : goal.loop-kind-preserved
loop-kind-preserved c =
    let before = c.loop-kind.boxes.items in
    let i = c.loop-kind.kind-index in
    let old : List Kind = map (λ b. (ghosts.seen b).kind) c.args.boxes.now.items in
    let lt : i < 9 = search rules in
    let kind : (ghosts.seen c.new.result).kind ≡ get_or all_kinds i Prog = c.new.ensures.kind in
    record {
      fresh = subst (All (λ b. (ghosts.seen b).fresh ≡ true)) (sym c.in_ok-push.ensures.items)
          (All-push (λ b. (ghosts.seen b).fresh ≡ true) before c.new.result c.loop-kind.invariant.fresh c.new.ensures.fresh);
      kinds = ap (λ (xs : List _). map (λ b. (ghosts.seen b).kind) xs) c.in_ok-push.ensures.items
          ∙ (map-append (λ b. (ghosts.seen b).kind) before (c.new.result ∷ [])
          ∙ (ap (λ (ks : List Kind). ks ++ (ghosts.seen c.new.result).kind ∷ []) c.loop-kind.invariant.kinds
          ∙ (append_assoc old (take i all_kinds) ((ghosts.seen c.new.result).kind ∷ [])
          ∙ ap (λ (ks : List Kind). old ++ ks) (ap (λ (k : Kind). take i all_kinds ++ k ∷ []) kind ∙ sym (take_more all_kinds i Prog lt)))));
    }
