-- What the first effect of an event made is told by what it brought, also where a forget strikes
-- out a file that is not held: no replica of the file takes the dead place, but the directories do.
use Rattle.std.proofs.Common.{◌≡◌, ℕ, Bool, true, false, cond, List, [], ◌∷◌, ◌++◌, map, ◌⊎◌, inl, inr, Option, None, Some, refl, sym, subst, ◌∙◌}
use Rattle.std.specs.Prelude.{◌&&◌, not, Result, Err, Ok}
use Rattle.std.specs.List.{filter}
use Rattle.std.proofs.lemmas.Option.{none-some}
use Rattle.pg_base.specs.declared.id.FileId.{FileId}
use Rattle.pg_content.specs.Content.{Among}
use Rattle.pg_content.proofs.Members.{among_filter, map_among}
use Rattle.pg_register.specs.declared.place.Place.{Place}
use Rattle.pg_edges.specs.declared.key.Key.{Key}
use Rattle.pg_edges.specs.declared.key.Key.TheVariants as key
use Rattle.pg_server.specs.pg_pieces.pg_msg.declared.update.Update.{Update}
use Rattle.pg_server.specs.pg_pieces.pg_msg.declared.update.Update.TheVariants as update
use Rattle.pg_server.specs.pg_pieces.pg_msg.declared.work.Work.{Work}
use Rattle.pg_server.specs.pg_pieces.pg_msg.Work.{new_work, with_made}
use Rattle.pg_server.specs.pg_pieces.pg_call.declared.call.Call.{Call}
use Rattle.pg_server.specs.pg_pieces.pg_call.declared.call.Call.TheVariants as call
use Rattle.pg_server.specs.pg_pieces.pg_call.declared.reply.Reply.TheVariants as reply
use Rattle.pg_server.specs.pg_pieces.pg_names.Names.{NamesValue, cell_at, is_dir}
use Rattle.pg_server.specs.pg_checks.pg_lookup.declared.paths.LookupError.{LookupError}
use Rattle.pg_server.specs.pg_pieces.pg_store.declared.store.Store.{Store}
use Rattle.pg_server.specs.pg_pieces.pg_store.Store.{entry_news, is_held}
use Rattle.pg_server.specs.pg_pieces.Done.{Done}
use Rattle.pg_server.specs.pg_pieces.Taking.{is_any_news, with_news}
use Rattle.pg_server.specs.pg_checks.Answer.{Answer, answer, answered}
use Rattle.pg_server.specs.pg_checks.Asking.{cell_in, is_later, later, latest}
use Rattle.pg_server.specs.pg_calls.Forgetting.{bare_entry, begin_lost, dead_at, dirs_of, fill_lost, forget_lost, lists_in, lost_at, mark, marked_each, strike_out, struck_out, unwished}
use Rattle.pg_server.specs.declared.input.Input.{Input}
use Rattle.pg_server.specs.declared.input.Input.TheVariants as input
use Rattle.pg_run.specs.Asking.{Asked as Wanting}
use Rattle.pg_run.specs.Carried.{anew_takes, came, forgotten_takes, strikes_out, struck_by, struck_takes}
use Rattle.pg_run.specs.Took.{Take, take_of}
use Rattle.pg_run.specs.Took.Take.{TookPlace}
use Rattle.pg_run.specs.Took.Taker.{InDir}
use Rattle.pg_run.specs.Run.{brought, first_made}
use Rattle.pg_run.proofs.Lists.{among_front}
use Rattle.pg_run.proofs.Knowing.{Tells, Within, told_itself}

front_told : (xs ys : List Take) → Within xs (xs ++ ys)
front_told xs ys u k = told_itself u (xs ++ ys) (among_front u xs ys k)

-- ---- the latest is one of them

chosen_dir : (t : Bool) (dir : FileId) (first : Option FileId) (d : FileId) → cond t (Some dir) first ≡ Some d
    → (first ≡ Some d) ⊎ (Some dir ≡ Some d)
chosen_dir true dir first d h = inr h
chosen_dir false dir first d h = inl h

same_dir : (d e : FileId) → Some d ≡ Some e → e ≡ d
same_dir d e h = cc

pub latest_in : (names : NamesValue) (file : FileId) (dirs : List FileId) (first : Option FileId) (d : FileId)
    → latest names file first dirs ≡ Some d → (first ≡ Some d) ⊎ Among d dirs
latest_in names file [] first d h = inl h
latest_in names file (dir ∷ dirs) first d h =
    elim (latest_in names file dirs (later names file first dir) d h) [
      | inl one ↦ elim (chosen_dir (is_later (cell_in names file first) (cell_at names dir file)) dir first d one) [
        | inl old ↦ inl old
        | inr new ↦ inr (inl (same_dir dir d new))
      ]
      | inr more ↦ inr (inr more)
    ]

-- ---- what marks cells makes nothing

news_made : (t : Bool) (w : Work) (file : FileId) (k : Key) → (with_news t w file k).made ≡ w.made
news_made true w file k = refl
news_made false w file k = refl

pub marked_made : (dirs : List FileId) (a : Store) (id : FileId) (place : Place) (w : Work)
    → (marked_each a id place dirs w).work.made ≡ w.made
marked_made [] a id place w = refl
marked_made (dir ∷ dirs) a id place w =
    let one = mark id place a dir w in
    marked_made dirs one.store id place one.work
    ∙ news_made (is_any_news (entry_news a dir (bare_entry id place))) w dir (key.Entry id)

-- ---- a file is struck out

module _ (a : Store) (moment : ℕ) (id : FileId) where
  abbrev W : Work
  W = new_work moment 0

  one_struck : (dir : FileId) → Among dir (dirs_of a.names id)
      → Within (map take_of (struck_out a id W (Some dir)).work.made) (struck_by a moment id (Some dir))
  one_struck dir here u k =
      let dead = dead_at a moment id dir in
      let w = with_made W (update.Place id dead) in
      let made : Among u (map take_of (update.Place id dead ∷ [])) =
      subst (λ (us : List Update). Among u (map take_of us)) (marked_made (dirs_of a.names id) (unwished a id) id dead w) k in
      let takes = struck_by a moment id (Some dir) in
      let told : Tells takes (TookPlace (InDir dir) id dead) =
      told_itself (TookPlace (InDir dir) id dead) takes
      (map_among (λ (d : FileId). TookPlace (InDir d) id dead) (dirs_of a.names id) dir here) in
      elim made [
        | inl same ↦ subst (Tells takes) (sym same) told
        | inr none ↦ absurd none
      ]

  abbrev Lists : List FileId
  Lists = filter (lists_in a.names id) (dirs_of a.names id)

  in_dirs : (dir : FileId) → (None ≡ Some dir) ⊎ Among dir Lists → Among dir (dirs_of a.names id)
  in_dirs dir (inl none) = absurd (none-some dir none)
  in_dirs dir (inr among) = (among_filter (lists_in a.names id) dir (dirs_of a.names id) among).0

  struck : (o : Option FileId) → latest a.names id None Lists ≡ o
      → Within (map take_of (struck_out a id W o).work.made) (struck_by a moment id o)
  struck None is = λ u k. absurd k
  struck (Some dir) is = one_struck dir (in_dirs dir (latest_in a.names id Lists None dir is))

  -- ---- any forget that goes on

  abbrev Lost : Bool → Bool → Done
  Lost held dir = cond held (fill_lost a id W) (cond dir (begin_lost a id W) (strike_out a id W))

  abbrev Told : Bool → Bool → List Take
  Told held dir = cond held [] (cond dir (anew_takes a id) (struck_takes a moment id))

  abbrev Made : Bool → Bool → List Take
  Made held dir = map take_of (Lost held dir).work.made

  pub by_kind : (held dir : Bool)
      → Within (Made held dir) (cond (not held && not dir) [] (Made held dir) ++ Told held dir)
  by_kind true dir = front_told (Made true dir) (Told true dir)
  by_kind false true = front_told (Made false true) (Told false true)
  by_kind false false = struck (latest a.names id None Lists) refl

module _ (a : Store) (moment : ℕ) where
  abbrev Asked : Result FileId LookupError → Answer
  Asked o = answered a (new_work moment 0) o (λ found. answer (forget_lost a found (new_work moment 0)) reply.Done)

  by_check : (o : Result FileId LookupError) → Within (map take_of (Asked o).work.made)
      (cond (strikes_out a o) [] (map take_of (Asked o).work.made) ++ forgotten_takes a moment o)
  by_check (Err stop) = front_told (map take_of (Asked (Err stop)).work.made) []
  by_check (Ok id) = by_kind a moment id (is_held a id) (is_dir id)

made_in_call : (a : Store) (wants : Wanting) (moment : ℕ) (c : Call)
    → Within (map take_of (first_made a (input.Call moment c))) (brought a wants (input.Call moment c))
made_in_call a wants moment (call.Forget id) = by_check a moment (lost_at a id)
made_in_call a wants moment c =
    front_told (map take_of (first_made a (input.Call moment c))) (came a wants (input.Call moment c))

-- WHAT IS MADE IS BROUGHT
pub made_brought : (a : Store) (wants : Wanting) (asked : Input)
    → Within (map take_of (first_made a asked)) (brought a wants asked)
made_brought a wants (input.Call moment c) = made_in_call a wants moment c
made_brought a wants asked = front_told (map take_of (first_made a asked)) (came a wants asked)
