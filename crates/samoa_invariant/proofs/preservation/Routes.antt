-- Under a route: where nothing leads to p any more, no handler step is at p.
use Rattle.std.proofs.Common.{◌≡◌, ◌≢◌, ℕ, sym, subst, true, List, [], ◌∷◌, ◌++◌, map, Some, None}
use Rattle.std.specs.List.{All}
use Rattle.std.proofs.lemmas.List.Elements.{All-head, All-tail}
use Rattle.samoa_serial.specs.declared.call.Active.{Active}
use Rattle.samoa_serial.specs.declared.call.Call.{Call}
use Rattle.samoa_model.specs.declared.script.Decl.{Decl}
use Rattle.samoa_model.specs.declared.record.Entry.{Entry}
use Rattle.samoa_model.specs.declared.ids.EventId.{EventId}
use Rattle.samoa_model.specs.declared.ids.HandlerId.{HandlerId}
use Rattle.samoa_model.specs.declared.handler.Refusal.{Refusal}
use Rattle.samoa_serial.specs.declared.call.Waiting.{Waiting}
use Rattle.samoa_model.specs.Allowed.{Attempt, declares, form_refuses, leads}
use Rattle.samoa_serial.specs.Calls.{Computation}
use Rattle.samoa_model.specs.Scripts.{resolve, Table}
use Rattle.samoa_serial.specs.World.{attempts_of}
use Rattle.samoa_invariant.specs.Play.{drive, Never}
use Rattle.samoa_model.specs.Paths.{Leads, Here, Then, IsSafe, handlers_by}
use Rattle.samoa_invariant.specs.State.{Quiet}
use Rattle.samoa_invariant.proofs.preservation.Closed.{Of, IsClosed, closed_drive}
use Rattle.samoa_serial.proofs.Declared.{AllActive, AllOf, begun_active}
use Rattle.samoa_invariant.proofs.preservation.Accepts.{AllPass, IsAccepted, is_accepted, none_unless, passed_form, next_is_head}

leads_trans : (vertices : List HandlerId) (edges : List (ℕ × ℕ)) (a b c : HandlerId) → Leads vertices edges a b → Leads vertices edges b c → Leads vertices edges a c
leads_trans vertices edges a b c l Here = l
leads_trans vertices edges a b c l (Then d e m edge) = Then d e (leads_trans vertices edges a b d l m) edge

-- each of these is an edge's end from g
abbrev pub AllLead : List HandlerId → List (ℕ × ℕ) → HandlerId → List HandlerId → Type 0
AllLead vertices edges g [] = Unit {0}
AllLead vertices edges g (h ∷ hs) = (leads vertices [] edges (Some g) h ≡ true) × AllLead vertices edges g hs

safe_along : (vertices : List HandlerId) (edges : List (ℕ × ℕ)) (p : ℕ) (g : HandlerId) (hs : List HandlerId) → IsSafe vertices edges p g → AllLead vertices edges g hs
    → AllOf (IsSafe vertices edges p) hs
safe_along vertices edges p g [] safe all = tt
safe_along vertices edges p g (h ∷ hs) safe all =
    ((λ u l. safe u (leads_trans vertices edges g h u (Then g h Here all.0) l)), safe_along vertices edges p g hs safe all.1)

passed_lead : (vertices : List HandlerId) (roots : List ℕ) (edges : List (ℕ × ℕ)) (es : List Entry) (g : HandlerId) (before hs : List HandlerId)
    → AllPass (Decl.Route vertices roots edges) es (Some g) before hs → AllLead vertices edges g hs
passed_lead vertices roots edges es g before [] all = tt
passed_lead vertices roots edges es g before (h ∷ hs) all =
    let both : (declares (Decl.Route vertices roots edges) h.micro.0 ≡ true) × (form_refuses (Decl.Route vertices roots edges) es before (Some g) h ≡ None) =
    passed_form (Decl.Route vertices roots edges) es (Some g) before h all.0 in
    (none_unless (leads vertices roots edges (Some g) h) Refusal.OffRoute both.1, passed_lead vertices roots edges es g (before ++ h ∷ []) hs all.1)

-- if a waiting call is accepted, its handlers are safe
abbrev pub MaySafely : List HandlerId → List (ℕ × ℕ) → Table → ℕ → List Waiting → Type 0
MaySafely vertices edges table p [] = Unit {0}
MaySafely vertices edges table p (w ∷ ws) =
    (AllLead vertices edges w.asker.handler (resolve table w.event) → AllOf (IsSafe vertices edges p) (resolve table w.event)) × MaySafely vertices edges table p ws

may_last : (vertices : List HandlerId) (edges : List (ℕ × ℕ)) (table : Table) (p : ℕ) (ws : List Waiting) (w : Waiting) → MaySafely vertices edges table p ws
    → (AllLead vertices edges w.asker.handler (resolve table w.event) → AllOf (IsSafe vertices edges p) (resolve table w.event))
    → MaySafely vertices edges table p (ws ++ w ∷ [])
may_last vertices edges table p [] w all h = (h, tt)
may_last vertices edges table p (x ∷ xs) w all h = (all.0, may_last vertices edges table p xs w all.1 h)

pub record IsAway (vertices : List HandlerId) (edges : List (ℕ × ℕ)) (table : Table) (p : ℕ) (actives : List Active) (ws : List Waiting) (es : List Entry) : Type 0 where
  pub active : AllActive (IsSafe vertices edges p) actives
  pub waiting : MaySafely vertices edges table p ws

accepted_lead : (vertices : List HandlerId) (roots : List ℕ) (edges : List (ℕ × ℕ)) (table : Table) (es : List Entry) (asker : Call) (event : EventId)
    (h : HandlerId) (hs : List HandlerId) → attempts_of (Decl.Route vertices roots edges) table es (Some asker) event ≡ Attempt.Accepts h hs
    → (resolve table event ≡ h ∷ hs) × AllLead vertices edges asker.handler (h ∷ hs)
accepted_lead vertices roots edges table es asker event h hs e =
    let a : IsAccepted (Decl.Route vertices roots edges) table es (Some asker) event h hs = is_accepted (Decl.Route vertices roots edges) table es (Some asker) event h hs e in
    (a.is, passed_lead vertices roots edges es asker.handler [] (h ∷ hs) a.pass)

away_closed : (vertices : List HandlerId) (roots : List ℕ) (edges : List (ℕ × ℕ)) (table : Table) (p : ℕ)
    → IsClosed (attempts_of (Decl.Route vertices roots edges) table) (IsAway vertices edges table p)
away_closed vertices roots edges table p =
    let Safe : HandlerId → Type 0 = IsSafe vertices edges p in
    record {
      due = λ c d e rest w es k. record { active = k.active; waiting = k.waiting };
      drop = λ a rest w es k. let all : Safe a.call.handler × AllActive Safe rest = k.active in record { active = all.1; waiting = k.waiting };
      cut = λ active w es k. record { active = tt; waiting = tt };
      noted = λ active w es e plain k. record { active = k.active; waiting = k.waiting };
      later = λ a rest w es event arg k.
          let all : Safe a.call.handler × AllActive Safe rest = k.active in
          record {
            active = k.active;
            waiting = may_last vertices edges table p w (record { asker = a.call; event = event; arg = arg }) k.waiting
                (λ lead. safe_along vertices edges p a.call.handler (resolve table event) all.0 lead);
          };
      called = λ a rest w es event arg h hs e k.
          let all : Safe a.call.handler × AllActive Safe rest = k.active in
          let got : (resolve table event ≡ h ∷ hs) × AllLead vertices edges a.call.handler (h ∷ hs) = accepted_lead vertices roots edges table es a.call event h hs e in
          record {
            active = begun_active Safe arg _ (h ∷ hs) (a ∷ rest) (safe_along vertices edges p a.call.handler (h ∷ hs) all.0 got.1) k.active;
            waiting = k.waiting;
          };
      woken = λ first w es h hs e k.
          let may : (AllLead vertices edges first.asker.handler (resolve table first.event) → AllOf Safe (resolve table first.event)) × MaySafely vertices edges table p w = k.waiting in
          let got : (resolve table first.event ≡ h ∷ hs) × AllLead vertices edges first.asker.handler (h ∷ hs) = accepted_lead vertices roots edges table es first.asker first.event h hs e in
          let lead : AllLead vertices edges first.asker.handler (resolve table first.event) =
          subst (λ (xs : List HandlerId). AllLead vertices edges first.asker.handler xs) (sym got.0) got.1 in
          record {
            active = begun_active Safe first.arg _ (h ∷ hs) [] (subst (λ (xs : List HandlerId). AllOf Safe xs) got.0 (may.0 lead)) tt;
            waiting = may.1;
          };
      unwoken = λ first w es k.
          let may : (AllLead vertices edges first.asker.handler (resolve table first.event) → AllOf Safe (resolve table first.event)) × MaySafely vertices edges table p w = k.waiting in
          record { active = k.active; waiting = may.1 };
    }

active_safe : (Q : HandlerId → Type 0) (active : List Active) → All Q (map (λ a. a.call.handler) active) → AllActive Q active
active_safe Q [] all = tt
active_safe Q (a ∷ rest) all =
    (All-head Q a.call.handler (map (λ x. x.call.handler) rest) all, active_safe Q rest (All-tail Q a.call.handler (map (λ x. x.call.handler) rest) all))

first_safe : (Q : HandlerId → Type 0) (hs rest : List HandlerId) → All Q (hs ++ rest) → AllOf Q hs × All Q rest
first_safe Q [] rest all = (tt, all)
first_safe Q (h ∷ hs) rest all =
    let later : AllOf Q hs × All Q rest = first_safe Q hs rest (All-tail Q h (hs ++ rest) all) in
    ((All-head Q h (hs ++ rest) all, later.0), later.1)

waiting_safe : (vertices : List HandlerId) (edges : List (ℕ × ℕ)) (table : Table) (p : ℕ) (ws : List Waiting)
    → All (IsSafe vertices edges p) (handlers_by table (map (λ w. w.event) ws)) → MaySafely vertices edges table p ws
waiting_safe vertices edges table p [] all = tt
waiting_safe vertices edges table p (w ∷ ws) all =
    let both = first_safe (IsSafe vertices edges p) (resolve table w.event) (handlers_by table (map (λ x. x.event) ws)) all in
    ((λ lead. both.0), waiting_safe vertices edges table p ws both.1)

-- the release of a route is sound
pub route_never : (vertices : List HandlerId) (roots : List ℕ) (edges : List (ℕ × ℕ)) (table : Table) (comp : Computation) (p : ℕ)
    → Quiet (Decl.Route vertices roots edges) table comp p → Never (attempts_of (Decl.Route vertices roots edges) table) comp p
route_never vertices roots edges table comp p quiet os =
    let first : Of (IsAway vertices edges table p) comp = record {
      active = active_safe (IsSafe vertices edges p) comp.active quiet.active_away;
      waiting = waiting_safe vertices edges table p comp.waiting quiet.waiting_away;
    } in
    let later : Of (IsAway vertices edges table p) (drive (attempts_of (Decl.Route vertices roots edges) table) comp os) =
    closed_drive (attempts_of (Decl.Route vertices roots edges) table) (IsAway vertices edges table p) (away_closed vertices roots edges table p) comp os first in
    λ c m e. next_is_head (λ h. h.micro.0 ≢ p) (drive (attempts_of (Decl.Route vertices roots edges) table) comp os) c m (all_not_at _ later.active) e
  where
    all_not_at : (active : List Active) → AllActive (IsSafe vertices edges p) active → AllActive (λ h. h.micro.0 ≢ p) active
    all_not_at [] all = tt
    all_not_at (a ∷ rest) all = (all.0 a.call.handler Here, all_not_at rest all.1)
