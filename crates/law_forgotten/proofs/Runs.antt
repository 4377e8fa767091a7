-- In every run: in the event in which a forget removes a file no place of it is made.
use Rattle.std.proofs.Common.{ℕ, ◌≡◌, Bool, true, false, cond, List, [], ◌++◌, None, Some, Contains, refl, sym, ap, subst, ◌∙◌, inl, inr}
use Rattle.std.proofs.lemmas.Bool.{false≢true}
use Rattle.std.proofs.lemmas.List.Elements.{All-contains}
use Rattle.pg_run.specs.pg_base.declared.id.FileId.{FileId}
use Rattle.pg_run.specs.pg_call.declared.call.Call.TheVariants.{Forget}
use Rattle.pg_run.specs.pg_content.Content.{Among}
use Rattle.pg_run.specs.pg_event.declared.event.Event.{Event}
use Rattle.pg_run.specs.pg_event.declared.event.Event.TheVariants.{Call as Called}
use Rattle.pg_run.specs.pg_msg.declared.update.Update.{Update}
use Rattle.pg_run.specs.pg_msg.declared.update.Update.TheVariants as update
use Rattle.pg_run.specs.pg_names.Names.{is_dir}
use Rattle.pg_run.specs.pg_register.declared.place.Place.{Place}
use Rattle.pg_run.specs.pg_server.declared.input.Input.TheVariants as input
use Rattle.pg_run.specs.Run.{Step, Taking, World, effect_step, first_made, idle_step, is_live, made_behind, next, run, taking_in, why_void}
use Rattle.pg_run.proofs.Frame.{next_is}
use Rattle.pg_run.proofs.Lists.{among_contained, among_parts, contained_among}
use Rattle.pg_run.proofs.Makes.{is_made_in_parts}
use Rattle.law_returns.proofs.HouseDirs.{IsLiveOfDir, made_live}
use Rattle.law_forgotten.proofs.Forgotten.{IsOfFile, made_fine}
use Rattle.law_forgotten.specs.Forgets.{ForgetsStay}

module _ (n : ℕ) (w : World) (s moment : ℕ) (id : FileId) where
  abbrev Forgetting : Event
  Forgetting = Called s moment (Forget id)

  abbrev Its : Taking
  Its = record { server = s; asked = input.Call moment (Forget id) }

  -- what makes anything is taken by its server
  taken_by : (u : Update) → Contains (next n w Forgetting).entry.made u → (t : Bool)
      → is_live n w s ≡ t → taking_in n w Forgetting ≡ Some Its
  taken_by u made true e = ap (λ (b : Bool). cond b (Some Its) None) e
  taken_by u made false e =
      let idle_is : (next n w Forgetting).entry.made ≡ [] = ap
      (λ (b : Bool). (cond b (effect_step w Forgetting s Its.asked)
      (idle_step w Forgetting (Some (why_void n s)))).entry.made) e in
      let M : List Update → Type 0 = λ us. Contains us u in
      absurd (contained_among [] u (subst M idle_is made))

-- A FORGET STAYS
pub forgets_stay : (n : ℕ) → ForgetsStay n
forgets_stay n events s moment id file removal made dead =
    let w = run n events in
    let a = w.stores s in
    let event = Forgetting n w s moment id in
    let t = Its n w s moment id in
    let asked = t.asked in
    let gone = update.Place file removal in
    let takes = taken_by n w s moment id gone made (is_live n w s) refl in
    let M : List Update → Type 0 = λ us. Contains us gone in
    let first = first_made a asked in
    let later = made_behind a asked in
    let all : Among gone (first ++ later) =
    contained_among (first ++ later) gone
    (subst M (ap (λ (x : Step). x.entry.made) (next_is n w event t takes)
    ∙ is_made_in_parts a asked) made) in
    let of_dir : (u : Update) → Contains later u → IsLiveOfDir u =
    λ u h. All-contains IsLiveOfDir later u (made_live a asked) h in
    let is : (file ≡ id) × (is_dir file ≡ false) =
    elim (among_parts gone first later all) [
      | inl here ↦ All-contains (IsOfFile id) first gone (made_fine a moment id)
          (among_contained first gone here) file removal refl dead
      | inr there ↦ absurd (false≢true (sym dead
          ∙ (of_dir gone (among_contained later gone there) file removal refl).1))
    ] in (
      is.0,
      is.1,
      λ place back. false≢true (sym is.1 ∙ (of_dir (update.Place file place) back file place refl).0),
    )
