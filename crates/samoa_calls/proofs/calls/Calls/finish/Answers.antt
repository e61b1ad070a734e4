use Rattle.std.proofs.Common.{ℕ, ◌≡◌, ◌-◌, List, [], ◌∷◌, ◌++◌, length, length-take, reverse, arith, ap, sym, take, ◌∙◌, drop, vec_len, refl}
use Rattle.samoa_model.specs.declared.handler.Reply.{Reply}
use Rattle.samoa_model.specs.declared.record.Entry.{Entry}
use Rattle.samoa_model.specs.Entries.{calls_made}
use Rattle.samoa_serial.specs.declared.call.Active.{Active}
use Rattle.samoa_serial.specs.declared.call.Call.{Call}
use Rattle.samoa_serial.specs.World.{Books, noted}
use Rattle.samoa_calls.specs.Handed.{handed}
use Rattle.samoa_calls.proofs.Made.{length_of_reverse}
use Rattle.samoa_serial.proofs.Lengths.{calls_made-append}
use Rattle.samoa_calls.proofs.Taken.{handed-some, not_empty, popped_back, some_first}
use Rattle.samoa_calls.specs.Held.{Calling}
use Rattle.samoa_calls.proofs.Counts.{counts_noted}
use Rattle.samoa_calls.proofs.calls.Calls.finish.Goals as goal

pub invariant_of-self : goal.invariant_of-self
invariant_of-self c =
    let nonempty = length_of_reverse c.self.inside.active.items _ _ (ap (λ (x : Calling). x.active) c.self.view_is ∙ c.requires.active.2) in
    let popped = simp length-take at (ap (λ (xs : List Active). length xs) c.pop.ensures.rest) in
    let made_now = simp calls_made-append at (ap calls_made c.push.ensures.entries) in
    let entered = c.push.ensures.len in
    record {
      taken = omega arith;
      made = omega (arith, made_now);
      active_room = omega (arith, popped);
      waiting_room = omega arith;
      entries_room = omega (arith, popped);
      numbers = omega arith;
      counts = counts_noted _ _ _ _ c.push.ensures.entries refl c.self.invariant.counts;
      few_active = omega (arith, popped);
      passed = omega arith;
      handlers_room = omega arith;
      few_handlers = omega arith;
      root = λ none. absurd (omega (arith, entered));
    }

pub invariant_of-self-then-is_none : goal.invariant_of-self-then-is_none
invariant_of-self-then-is_none c =
    let nonempty = length_of_reverse c.self.inside.active.items _ _ (ap (λ (x : Calling). x.active) c.self.view_is ∙ c.requires.active.2) in
    let popped = simp length-take at (ap (λ (xs : List Active). length xs) c.pop.ensures.rest) in
    let made_now = simp calls_made-append at (ap calls_made c.push.ensures.entries) in
    let entered = c.push.ensures.len in
    record {
      taken = omega arith;
      made = omega (arith, made_now);
      active_room = omega (arith, popped);
      waiting_room = omega arith;
      entries_room = omega (arith, popped);
      numbers = omega arith;
      counts = counts_noted _ _ _ _ c.push.ensures.entries refl c.self.invariant.counts;
      few_active = omega (arith, popped);
      passed = omega arith;
      handlers_room = omega arith;
      few_handlers = omega arith;
      root = λ none. absurd (omega (arith, entered));
    }

pub invariant_of-self-else-is_none : goal.invariant_of-self-else-is_none
invariant_of-self-else-is_none c =
    let nonempty = length_of_reverse c.self.inside.active.items _ _ (ap (λ (x : Calling). x.active) c.self.view_is ∙ c.requires.active.2) in
    let popped = simp length-take at (ap (λ (xs : List Active). length xs) c.pop.ensures.rest) in
    let made_now = simp calls_made-append at (ap calls_made c.push.ensures.entries) in
    let entered = c.push.ensures.len in
    record {
      taken = omega arith;
      made = omega (arith, made_now);
      active_room = omega (arith, popped);
      waiting_room = omega arith;
      entries_room = omega (arith, popped);
      numbers = omega arith;
      counts = counts_noted _ _ _ _ c.push.ensures.entries refl c.self.invariant.counts;
      few_active = omega (arith, popped);
      passed = omega arith;
      handlers_room = omega arith;
      few_handlers = omega arith;
      root = λ none. absurd (omega (arith, entered));
    }

pub returns-then-not-is_empty-clause-handed : goal.returns-then-not-is_empty-clause-handed
returns-then-not-is_empty-clause-handed c = λ a rest e.
    let inside = c.self.inside in
    let items = inside.active.items in
    let reply : Reply = Reply.Words c.args.reply in
    let one_less : vec_len inside.active - 1 ≡ length items - 1 = omega arith in
    let shorter = c.pop.ensures.rest ∙ ap (λ (n : ℕ). take n items) one_less in
    let popped = ap (λ (xs : List Active). reverse xs) shorter ∙ popped_back items a rest (ap (λ (x : Calling). x.active) c.self.view_is ∙ e) in
    let left = some_first (reverse c.pop.new.self.items) (not_empty c.pop.new.self.items _ _ (omega arith) c.is_empty.ensures c.if-not-is_empty.true) in
    let given = c.hand.ensures.given left.0 left.1 left.2 in
    let books : List Entry → Books = λ es. record { units = inside.units; waiting = drop inside.taken inside.waiting.items; entries = es } in
    let entries_are = c.push.ensures.entries
    ∙ ap (λ (k : Call). inside.entries.entries ++ Entry.Finished k.number c.args.reply ∷ []) (c.innermost-number.ensures a rest e) in
    handed-some _ (books c.push.new.self.entries) inside.answer rest left.0 left.1 reply (sym popped ∙ left.2) given
    ∙ (ap (λ (es : List Entry). handed (books es) inside.answer rest reply) entries_are
    ∙ ap (λ (x : Calling). handed (noted x.books (Entry.Finished a.call.number c.args.reply)) x.answer rest reply) c.self.view_is)
