-- In a group history each delivered message has an origin and a number below 2 ^ 64, so their texts tell them apart.
use Rattle.std.proofs.Common.{◌≡◌, inl, inr, refl, sym, ap, subst, ◌∙◌, ℕ, ◌<◌, ◌≤◌, ◌^◌, ◌==◌, arith, Bool, true, false, ◌&&◌, ◌||◌, List, [], ◌∷◌, map, decimal, bytes_eq}
use Rattle.std.specs.Prelude.{⊤}
use Rattle.std.specs.List.{list_any}
use Rattle.std.proofs.lemmas.Bool.{eqb-true}
use Rattle.std.proofs.lemmas.Fmt.{decimal_injective}
use Rattle.std.proofs.lemmas.Slice.Eq.{bytes_eq-Decides}
use Rattle.samoa_model.specs.Range.{IsInRange, IsExtOf}
use Rattle.samoa_model.specs.declared.handler.Outcome.{Outcome}
use Rattle.samoa_model.specs.declared.ids.HandlerId.{HandlerId}
use Rattle.samoa_model.specs.declared.record.Ext.{Ext}
use Rattle.samoa_model.specs.declared.script.Script.{Script}
use Rattle.samoa_serial.specs.Lists.{Each}
use Rattle.samoa_serial.specs.Rows.{word}
use Rattle.samoa_serial.specs.declared.message.Message.{Message}
use Rattle.samoa_laws.specs.trace.Trace.{HandlerStep, trace}
use Rattle.samoa_laws.specs.trace.Group.{IsGroupHistory, event_for, handler}
use Rattle.samoa_serial.proofs.ListLaws.{each_in, in_middle}
use Rattle.samoa_laws.proofs.trace.Points.{trace-is_trace}
use Rattle.samoa_laws.proofs.trace.Steps.{Before, before}
use Rattle.samoa_laws.specs.lists.Lists.{IsApart}
use Rattle.samoa_serial.specs.Lists.{In}
use Rattle.samoa_laws.specs.replacement.Group.{IsOrdered, Up, messages_of}
use Rattle.samoa_laws.specs.replacement.History.{begin_alike, left_by, said}
use Rattle.samoa_laws.specs.streams.Ordered.{IsBroadcast, WasSubmitted, protocol, ups_at}
use Rattle.samoa_laws.specs.streams.Streams.{repl_at, stream_at}
use Rattle.samoa_laws.proofs.streams.Boxes.{Made, box_state, made}
use Rattle.samoa_laws.proofs.streams.Order.{ordered}
use Rattle.samoa_laws.proofs.streams.Submitted.{GivenBy, given_by}
use Rattle.samoa_laws.proofs.streams.Views.{history_at}
use Rattle.samoa_laws.proofs.streams.Words.{apart, stream_is}
use Rattle.samoa_laws.proofs.streams.Owed.{are_submitted, keeps_order}
use Rattle.samoa_laws.specs.text.Told.{alike}
use Rattle.samoa_laws.specs.text.Deliveries.{texts}
use Rattle.samoa_laws.proofs.text.OwnNumbers.{IsSaid, Gives, called, call_words, history_keeps, steps_keep, stream_said}

-- ---- bounds
pub IsSmall : Message → Type 0
IsSmall m = (m.origin < 2 ^ 64) × (m.number < 2 ^ 64)

each_any : (ms : List Message) → Each (λ (m : Message). ⊤) ms
each_any [] = tt
each_any (m ∷ ms) = (tt, each_any ms)

-- what the replacement layer casts has its node, and a small number
own_cast : (script : Script) (exts : List Ext) → IsGroupHistory script exts → (past : List HandlerStep) (h : HandlerId) (arg : List ℕ) (g : GivenBy script exts past h arg)
    → (word arg 1 ≡ g.step.node) × (word arg 2 < 2 ^ 64)
own_cast script exts history past h arg g =
    let out : Gives (λ (m : Message). ⊤) script w y.outcome =
    subst (λ (o : Outcome). Gives (λ (m : Message). ⊤) script w o) (sym m.outcome)
    (steps_keep (λ (m : Message). ⊤) script w (left_by (repl_at w b.earlier)) y.moment (each_any _)
    (history_keeps (λ (m : Message). ⊤) script w (repl_at w b.earlier) (history_at script exts history.group w b.earlier b.is_trace) (each_any _))).outcome in
    subst (λ (o : Outcome). called o ≡ 12 → (word (call_words o) 1 ≡ w) × (word (call_words o) 2 < 2 ^ 64)) g.outcome out.cast g.twelve
  where
    y : HandlerStep
    y = g.step

    w : ℕ
    w = g.step.node

    b : Before script exts past g.step
    b = g.part

    m : Made script w b.earlier y
    m = made script exts history.group w b.earlier y b.follows (refl, sym g.six) (box_state script exts history.group w b.earlier b.is_trace)

-- a step is at a node of the script
node_small : (script : Script) (exts : List Ext) → IsInRange script → IsGroupHistory script exts → (past : List HandlerStep) (y : HandlerStep) → Before script exts past y
    → y.node < 2 ^ 64
node_small script exts range history past y b =
    let known : IsExtOf script b.follows.ext =
    each_in (IsExtOf script) exts b.follows.ext history.known
    (subst (λ (xs : List Ext). In b.follows.ext xs) (sym b.follows.admitted) (in_middle b.follows.ext b.follows.before b.follows.later)) in
    let here : y.node ≡ b.follows.ext.node.0 = b.follows.follows.node in
    let few : script.nodes ≤ 8 = range.few_nodes in
    let least : b.follows.ext.node.0 < script.nodes = known.node in
    omega (arith, here, few, least)

submitted_small : (script : Script) (exts : List Ext) → IsInRange script → IsGroupHistory script exts → (c : Up) → WasSubmitted (trace script exts) c → IsSmall c.message
unfolding IsSmall
submitted_small script exts range history c s =
    let x : HandlerStep = s.step in
    let b : Before script exts (trace script exts) x = before script exts (trace script exts) x (trace-is_trace script exts) s.there in
    let g : GivenBy script exts b.earlier x.call.handler s.arg = given_by script exts history b.earlier x b.is_trace b.follows (twelve s.broadcast) s.arg s.moment in
    let own : (word s.arg 1 ≡ g.step.node) × (word s.arg 2 < 2 ^ 64) = own_cast script exts history b.earlier x.call.handler s.arg g in
    let node : g.step.node < 2 ^ 64 = node_small script exts range history b.earlier g.step g.part in
    let origin : word s.arg 1 < 2 ^ 64 = subst (λ (n : ℕ). n < 2 ^ 64) (sym own.0) node in
    subst (λ (m : Message). (m.origin < 2 ^ 64) × (m.number < 2 ^ 64)) (sym s.message) (origin, own.1)
  where
    twelve : IsBroadcast c.by → event_for s.step.call.handler ≡ 12
    twelve (inl four) = ap (λ (h : HandlerId). event_for h) s.handler_is ∙ ap (λ (p : ℕ). event_for (handler p 0)) four
    twelve (inr five) = ap (λ (h : HandlerId). event_for h) s.handler_is ∙ ap (λ (p : ℕ). event_for (handler p 0)) five

ups_small : (cs : List Up) → ((c : Up) → In c cs → IsSmall c.message) → Each IsSmall (messages_of cs)
ups_small [] all = tt
ups_small (c ∷ cs) all = (all c (inl refl), ups_small cs (λ d i. all d (inr i)))

-- each delivered message has small numbers
pub stream_small : (script : Script) (exts : List Ext) (v : ℕ) → IsInRange script → IsGroupHistory script exts → Each (IsSaid IsSmall script v) (stream_at script exts v)
stream_small script exts v range history =
    let past : List HandlerStep = trace script exts in
    let given = are_submitted script exts history in
    let order : IsOrdered (λ w. repl_at w past) (λ w. ups_at w past) protocol = ordered script exts history (keeps_order script exts history) given in
    let ups : Each IsSmall (messages_of (ups_at v past)) = ups_small (ups_at v past) (λ c i. submitted_small script exts range history c (given v c i)) in
    subst (λ (ws : List (List ℕ)). Each (IsSaid IsSmall script v) ws) (sym (stream_is script exts v))
    (stream_said IsSmall script v (repl_at v past) (history_at script exts history.group v past (trace-is_trace script exts))
    (subst (λ (ms : List Message). Each IsSmall ms) (order.begun v) ups))

-- ---- apart as texts
same_texts : (a b : ℕ) → a < 2 ^ 64 → b < 2 ^ 64 → bytes_eq (decimal a) (decimal b) ≡ (a == b)
same_texts a b small also =
    let decides = bytes_eq-Decides (decimal a) (decimal b) in
    go (bytes_eq (decimal a) (decimal b)) (a == b)
    (λ e. grind (arith, decimal_injective a b small also (decides.0 e)))
    (λ e. decides.1 (ap (λ (n : ℕ). decimal n) (eqb-true a b e)))
  where
    go : (x y : Bool) → (x ≡ true → y ≡ true) → (y ≡ true → x ≡ true) → x ≡ y
    go true y f g = sym (f refl)
    go false true f g = g refl
    go false false f g = refl

module _ (script : Script) (v : ℕ) where
  alike_said : (x y : List ℕ) → IsSaid IsSmall script v x → IsSaid IsSmall script v y → alike (map decimal x) (map decimal y) ≡ begin_alike x y
  unfolding IsSmall
  alike_said x y m n =
      ap (λ (ws : List ℕ). alike (map decimal ws) (map decimal y)) m.is
      ∙ (ap (λ (ws : List ℕ). alike (map decimal (said m.message)) (map decimal ws)) n.is
      ∙ (ap (λ (b : Bool). b && bytes_eq (decimal m.message.number) (decimal n.message.number)) (same_texts m.message.origin n.message.origin m.has.0 n.has.0)
      ∙ (ap (λ (b : Bool). (m.message.origin == n.message.origin) && b) (same_texts m.message.number n.message.number m.has.1 n.has.1)
      ∙ (ap (λ (ws : List ℕ). begin_alike (said m.message) ws) (sym n.is)
      ∙ ap (λ (ws : List ℕ). begin_alike ws y) (sym m.is)))))

  any_alike : (x : List ℕ) (ys : List (List ℕ)) → IsSaid IsSmall script v x → Each (IsSaid IsSmall script v) ys
      → list_any (λ y. alike (map decimal x) y) (texts ys) ≡ list_any (λ y. begin_alike x y) ys
  any_alike x [] m all = refl
  any_alike x (y ∷ ys) m all =
      ap (λ (b : Bool). b || list_any (λ z. alike (map decimal x) z) (texts ys)) (alike_said x y m all.0)
      ∙ ap (λ (b : Bool). begin_alike x y || b) (any_alike x ys m all.1)

  apart_texts : (ws : List (List ℕ)) → Each (IsSaid IsSmall script v) ws → IsApart begin_alike ws → IsApart alike (texts ws)
  apart_texts [] all is = tt
  apart_texts (w ∷ ws) all is = (any_alike w ws all.0 all.1 ∙ is.0, apart_texts ws all.1 is.1)

pub stream_apart : (script : Script) (exts : List Ext) (v : ℕ) → IsInRange script → IsGroupHistory script exts → IsApart alike (texts (stream_at script exts v))
stream_apart script exts v range history = apart_texts script v (stream_at script exts v) (stream_small script exts v range history) (apart script exts v history)
