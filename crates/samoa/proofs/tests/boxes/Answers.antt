use Rattle.std.proofs.Common.{◌≡◌, ◌∙◌, List, ◌∷◌, [], ◌++◌, ap, map, subst, sym, true, rules, append_assoc, append-nil, length}
use Rattle.std.specs.List.{All}
use Rattle.std.proofs.lemmas.List.{map-append, nil_from_length}
use Rattle.std.proofs.lemmas.List.Elements.{All-head, All-push, All-tail}
use Rattle.samoa_model.specs.declared.setup.Kind.{Kind}
use Rattle.samoa_micro.specs.Stocks.{HasEnough}
use Rattle.samoa_kinds.specs.declared.any.AnyKind.{AnyKind}
use Rattle.samoa_kinds.specs.contracts.any.AnyKindMicro.TheImpl.{ghosts as any}
use Rattle.samoa.specs.declared.tests.Faint.{Faint}
use Rattle.samoa.specs.contracts.tests.FaintMicro.TheImpl.{ghosts as faint}
use Rattle.samoa.proofs.tests.boxes.Goals as goal

pub loop-micro-preserved : goal.loop-micro-preserved
loop-micro-preserved c =
    let taken : c.loop-micro.micro-iterator.rest.items ≡ c.in-Some.micro ∷ c.next.new.self.rest.items = search rules in
    let one : Faint = record { micro = c.in-Some.micro; left = c.args.steps } in
    let pushed : c.push.new.self.items ≡ c.loop-micro.faint.items ++ one ∷ [] = c.in_ok-push.ensures.items in
    let left : All (λ b. (any.seen b).fresh ≡ true) (c.in-Some.micro ∷ c.next.new.self.rest.items) = subst (All (λ b. (any.seen b).fresh ≡ true)) taken c.loop-micro.invariant.rest in
    let before : List Kind = map (λ b. (faint.seen b).kind) c.loop-micro.faint.items in
    record {
      fresh = subst (All (λ b. (faint.seen b).fresh ≡ true)) (sym pushed)
          (All-push (λ b. (faint.seen b).fresh ≡ true) c.loop-micro.faint.items one c.loop-micro.invariant.fresh (All-head (λ b. (any.seen b).fresh ≡ true) c.in-Some.micro c.next.new.self.rest.items left));
      rest = All-tail (λ b. (any.seen b).fresh ≡ true) c.in-Some.micro c.next.new.self.rest.items left;
      kinds = ap (λ (xs : List Faint). map (λ b. (faint.seen b).kind) xs ++ map (λ b. (any.seen b).kind) c.next.new.self.rest.items) pushed
          ∙ (ap (λ (ks : List Kind). ks ++ map (λ b. (any.seen b).kind) c.next.new.self.rest.items) (map-append (λ b. (faint.seen b).kind) c.loop-micro.faint.items (one ∷ []))
          ∙ (append_assoc before ((any.seen c.in-Some.micro).kind ∷ []) (map (λ b. (any.seen b).kind) c.next.new.self.rest.items)
          ∙ (ap (λ (xs : List AnyKind). before ++ map (λ b. (any.seen b).kind) xs) (sym taken) ∙ c.loop-micro.invariant.kinds)));
    }

pub returns-clause-enough : goal.returns-clause-enough
returns-clause-enough c =
    let none : length c.loop-micro.micro-iterator.rest.items ≡ 0 = search rules in
    let over : c.loop-micro.micro-iterator.rest.items ≡ [] = nil_from_length c.loop-micro.micro-iterator.rest.items none in
    let start : c.into_iter-micro-iterator.result.rest.items ≡ c.in_ok-micro-items.micro-items.items = search rules in
    let held : List Kind = map (λ b. (faint.seen b).kind) c.loop-micro.faint.items in
    let all : held ≡ map (λ b. (any.seen b).kind) c.in_ok-micro-items.micro-items.items
    = sym (append-nil held)
    ∙ (ap (λ (xs : List AnyKind). held ++ map (λ b. (any.seen b).kind) xs) (sym over)
    ∙ (c.loop-micro.invariant.kinds ∙ ap (λ (xs : List AnyKind). map (λ b. (any.seen b).kind) xs) start)) in
    subst (λ (kinds : List Kind). HasEnough kinds) (sym all) c.in_ok-micro-items.ensures.enough
