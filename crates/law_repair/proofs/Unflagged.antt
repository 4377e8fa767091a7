-- Updates among which no flag of a thing is, and pieces of an event that make none.
use Rattle.std.proofs.Common.{◌≡◌, true, false, List, [], ◌∷◌, ◌++◌, sym, ap, subst, ◌∙◌, inl, inr}
use Rattle.std.specs.Prelude.{nat_lt}
use Rattle.std.proofs.lemmas.Bool.{false≢true}
use Rattle.pg_run.specs.pg_base.declared.id.FileId.{FileId}
use Rattle.pg_run.specs.pg_base.declared.stamp.Stamp.{Stamp}
use Rattle.pg_run.specs.pg_base.Id.{is_same_file}
use Rattle.pg_run.proofs.pg_base.Orders.{is_same_file-refl}
use Rattle.pg_run.specs.pg_content.Content.{Among}
use Rattle.pg_run.specs.pg_msg.declared.update.MadeVersion.{MadeVersion}
use Rattle.pg_run.specs.pg_msg.declared.update.Update.{Update}
use Rattle.pg_run.specs.pg_msg.declared.update.Update.TheVariants as update
use Rattle.pg_run.specs.pg_msg.declared.work.Work.{Work}
use Rattle.pg_run.specs.pg_msg.Work.{with_made}
use Rattle.pg_run.specs.pg_patch.Ranges.{RangesValue}
use Rattle.pg_run.specs.pg_register.declared.flag.Flag.{Flag}
use Rattle.pg_run.specs.pg_register.declared.place.Place.{Place}
use Rattle.pg_run.specs.pg_calls.Forgetting.{bare_entry, mark, marked_each}
use Rattle.pg_run.specs.pg_calls.Making.{make_place, make_version, version_of}
use Rattle.pg_run.specs.pg_pieces.Done.{Done, idle}
use Rattle.pg_run.specs.pg_pieces.Making.{make_flag, own_next, raise_flag}
use Rattle.pg_run.specs.pg_repair.Filling.{few_golds, live_golds, raise_if_few}
use Rattle.pg_run.specs.pg_store.declared.store.Store.{Store}
use Rattle.pg_run.proofs.theory_flood_pieces.Choices.{chosen}
use Rattle.pg_run.proofs.Lists.{among_parts}
use Rattle.pg_run.proofs.Still.{entry_still, flag_still, place_still}

-- ---- lists

-- no flag of the thing is among these
abbrev pub NoneOf : FileId → List Update → Type 0
NoneOf file us = (g : Flag) → Among (update.Flag file g) us → ⊥

pub none_nil : (file : FileId) → NoneOf file []
none_nil file g there = absurd there

pub none_place : (file f : FileId) (p : Place) → NoneOf file (update.Place f p ∷ [])
none_place file f p g (inl same) = absurd (let z : update.Flag file g ≡ update.Place f p = same in cc)
none_place file f p g (inr rest) = absurd rest

none_version : (file : FileId) (u : MadeVersion) → NoneOf file (update.Version u ∷ [])
none_version file u g (inl same) = absurd (let z : update.Flag file g ≡ update.Version u = same in cc)
none_version file u g (inr rest) = absurd rest

thing_is : (f q : FileId) (g h : Flag) → update.Flag f g ≡ update.Flag q h → f ≡ q
thing_is f q g h e = cc

pub none_flag : (file f : FileId) (h : Flag) → is_same_file f file ≡ false → NoneOf file (update.Flag f h ∷ [])
none_flag file f h apart g (inl same) =
    absurd (false≢true (sym apart ∙ ap (λ (q : FileId). is_same_file q file) (sym (thing_is file f g h same)) ∙ is_same_file-refl file))
none_flag file f h apart g (inr rest) = absurd rest

pub none_both : (file : FileId) (us vs : List Update) → NoneOf file us → NoneOf file vs → NoneOf file (us ++ vs)
none_both file us vs a b g there = elim (among_parts (update.Flag file g) us vs there) [ inl x ↦ a g x | inr y ↦ b g y ]

pub none_same : (file : FileId) (us vs : List Update) → vs ≡ us → NoneOf file us → NoneOf file vs
none_same file us vs same k g there = k g (subst (Among (update.Flag file g)) same there)

-- ---- pieces

module _ (file : FileId) where
  abbrev pub Of : Done → Type 0
  Of d = NoneOf file d.work.made

  pub flag_none : (b : Store) (f : FileId) (g : Flag) (w : Work) → is_same_file f file ≡ false → NoneOf file w.made → Of (make_flag b f g w)
  flag_none b f g w apart k =
      none_same file (w.made ++ update.Flag f g ∷ []) _ (flag_still b f g (with_made w (update.Flag f g))).made
      (none_both file w.made (update.Flag f g ∷ []) k (none_flag file f g apart))

  pub raise_none : (b : Store) (f : FileId) (w : Work) → is_same_file f file ≡ false → NoneOf file w.made → Of (raise_flag b f w)
  raise_none b f w apart k = flag_none b f (own_next b f true) w apart k

  pub few_none : (b : Store) (f : FileId) (w : Work) → is_same_file f file ≡ false → NoneOf file w.made → Of (raise_if_few b f w)
  few_none b f w apart k = chosen Of (nat_lt (live_golds b f) few_golds) (raise_flag b f w) (idle b w) (raise_none b f w apart k) k

  pub place_none : (b : Store) (f : FileId) (p : Place) (w : Work) → NoneOf file w.made → Of (make_place f p (idle b w))
  place_none b f p w k =
      none_same file (w.made ++ update.Place f p ∷ []) _ (place_still b f p (with_made w (update.Place f p))).made
      (none_both file w.made (update.Place f p ∷ []) k (none_place file f p))

  pub version_none : (d : Done) (f : FileId) (stamp : Stamp) (ranges : RangesValue) → Of d → Of (make_version f stamp ranges d)
  version_none d f stamp ranges k =
      none_both file d.work.made (update.Version (version_of d.store f stamp ranges) ∷ []) k (none_version file (version_of d.store f stamp ranges))

  pub marks_none : (dirs : List FileId) (b : Store) (id : FileId) (place : Place) (w : Work) → NoneOf file w.made → Of (marked_each b id place dirs w)
  marks_none [] b id place w k = k
  marks_none (dir ∷ dirs) b id place w k =
      let one = mark id place b dir w in
      marks_none dirs one.store id place one.work (none_same file w.made one.work.made (entry_still b dir (bare_entry id place) w).made k)
