-- What the sets leave out: whose releases and whose end aren't due. And later events change no index.
use Rattle.std.proofs.Common.{arith, ◌≡◌, ℕ, ◌≤◌, ◌<◌, refl, sym, ◌∙◌, subst, Bool, true, Option, Some, None}
use Rattle.samoa_model.specs.Allowed.{weight}
use Rattle.samoa_model.specs.declared.script.Decl.{Decl}
use Rattle.samoa_invariant.specs.Play.{Agree, Play}
use Rattle.samoa_invariant.specs.State.{CanRelease, Core, put}
use Rattle.samoa_invariant.specs.Inv.{Invariant}
use Rattle.samoa_invariant.specs.Index.{Declares, Index, IsHeadOf, IsIndexed, IsNextOf, IsTailOf, MayEnter, TellsEntry, passed_on, released, running}
use Rattle.samoa_invariant.proofs.preservation.Slots.{put-else, turn_owns}
use Rattle.samoa_invariant.proofs.representation.Extended.{end-same, enter-same, release-same}
use Rattle.samoa_invariant.proofs.indexing.Stepping.{next_of}

-- a release makes none restless but a later computation
pub released_restless : (P : Play) (first : ℕ) (core : Core) (k p : ℕ) (index : Index) (enters : Bool) (j : ℕ) → Invariant P core → CanRelease P core k p → IsIndexed P first core index
    → j ≤ k → (released index k (P.node k) p enters).restless j ≡ index.restless j
released_restless P first core k p index enters j inv can is le =
    go (index.next k p) (next_of P first core k p index inv is can.turn.admitted (turn_owns P core k p inv can.turn))
  where
    go : (x : Option ℕ) → IsNextOf P core.count k p x → (passed_on (record index { closing = put index.closing k true }) (P.node k) p x enters).restless j ≡ index.restless j
    go None last = refl
    go (Some i) after = put-else index.restless i j true (λ (e : j ≡ i). omega (arith, after.later))

-- what was admitted so far decides what an index tells
declares-same : (P Q : Play) (v p k : ℕ) → P.node k ≡ Q.node k → P.decl k ≡ Q.decl k → Declares P v p k → Declares Q v p k
declares-same P Q v p k node decl d = record { node = d.node ∙ node; some = subst (λ (x : Decl). 0 < weight x p) decl d.some }

back : (P Q : Play) (n : ℕ) → Agree P Q n → (v p k : ℕ) → k < n → Declares Q v p k → Declares P v p k
back P Q n a v p k lt d = declares-same Q P v p k (sym (a.node k lt)) (sym (a.decl k lt)) d

head-agree : (P Q : Play) (core : Core) (v p : ℕ) (x : Option ℕ) → Agree P Q core.count → IsHeadOf P core v p x → IsHeadOf Q core v p x
head-agree P Q core v p None a free = λ j lt d. free j lt (back P Q core.count a v p j lt d)
head-agree P Q core v p (Some k) a head = record {
  admitted = head.admitted;
  declares = declares-same P Q v p k (a.node k head.admitted) (a.decl k head.admitted) head.declares;
  short = head.short;
  before = λ j less d. head.before j less (back P Q core.count a v p j (omega (arith, less, head.admitted)) d);
}

tail-agree : (P Q : Play) (first count v p : ℕ) (x : Option ℕ) → Agree P Q count → IsTailOf P first count v p x → IsTailOf Q first count v p x
tail-agree P Q first count v p None a none = λ j from lt d. none j from lt (back P Q count a v p j lt d)
tail-agree P Q first count v p (Some t) a tail = record {
  from = tail.from;
  admitted = tail.admitted;
  declares = declares-same P Q v p t (a.node t tail.admitted) (a.decl t tail.admitted) tail.declares;
  last = λ j more lt d. tail.last j more lt (back P Q count a v p j lt d);
}

next-agree : (P Q : Play) (count k p : ℕ) (x : Option ℕ) → Agree P Q count → k < count → IsNextOf P count k p x → IsNextOf Q count k p x
next-agree P Q count k p None a lt last = λ i more less d.
    last i more less (subst (λ (v : ℕ). Declares P v p i) (sym (a.node k lt)) (back P Q count a (Q.node k) p i less d))
next-agree P Q count k p (Some j) a lt after = record {
  admitted = after.admitted;
  later = after.later;
  declares = subst (λ (v : ℕ). Declares Q v p j) (a.node k lt) (declares-same P Q (P.node k) p j (a.node j after.admitted) (a.decl j after.admitted) after.declares);
  between = λ i more less d. after.between i more less
      (subst (λ (v : ℕ). Declares P v p i) (sym (a.node k lt)) (back P Q count a (Q.node k) p i (omega (arith, less, after.admitted)) d));
}

pub indexed-agree : (P Q : Play) (first : ℕ) (core : Core) (index : Index) → Agree P Q core.count → IsIndexed P first core index → IsIndexed Q first core index
indexed-agree P Q first core index a is = record {
  begun = is.begun;
  cleared = is.cleared;
  heads = λ v p. head-agree P Q core v p (index.head v p) a (is.heads v p);
  tails = λ v p. tail-agree P Q first core.count v p (index.tail v p) a (is.tails v p);
  nexts = λ k p from lt some. next-agree P Q core.count k p (index.next k p) a lt (is.nexts k p from lt (subst (λ (x : Decl). 0 < weight x p) (sym (a.decl k lt)) some));
  ready = λ k from lt. ready k from lt;
  restless = λ k p can. let lt : k < core.count = can.turn.admitted in is.restless k p (release-same Q P core k p (sym (a.node k lt)) (sym (a.decl k lt)) can);
  closing = λ k can. let lt : k < core.count = can.admitted in is.closing k (end-same Q P core k (sym (a.node k lt)) (sym (a.decl k lt)) can);
  unadmitted = is.unadmitted;
}
  where
    ready : (k : ℕ) → first ≤ k → k < core.count → TellsEntry Q core k (index.ready k)
    ready k from lt =
        let old : TellsEntry P core k (index.ready k) = is.ready k from lt in
        (λ on. let may : MayEnter P core k = old.0 on in (may.0, enter-same P Q (running core) k may.0 (a.node k lt) may.1), λ may. old.1 (may.0, enter-same Q P (running core) k may.0 (sym (a.node k lt)) may.1))
