-- What a server does that raises no flag, and a filling replica that is full.
use Rattle.std.proofs.Common.{ℕ, ◌≡◌, ◌&&◌, true, false, cond, not, List, [], Option, None, Some, is_some, refl, subst, ◌∙◌, inl}
use Rattle.std.specs.Prelude.{nat_lt}
use Rattle.std.proofs.lemmas.Bool.{and_parts}
use Rattle.law_frame.specs.pg_run.pg_base.declared.id.FileId.{FileId}
use Rattle.law_frame.specs.pg_run.pg_content.Content.{Among}
use Rattle.law_frame.specs.pg_run.pg_msg.declared.message.Ends.{Ends}
use Rattle.law_frame.specs.pg_run.pg_msg.declared.update.Update.{Update}
use Rattle.law_frame.specs.pg_run.pg_msg.declared.update.Update.TheVariants as update
use Rattle.law_frame.specs.pg_run.pg_msg.declared.work.Work.{Work}
use Rattle.law_frame.specs.pg_run.pg_names.declared.attributes.Attributes.{Attributes}
use Rattle.law_frame.specs.pg_run.pg_names.Names.{InodeValue, NamesValue, fill as fill_names, is_full as names_full, is_full_of, known, or_blank, own_at, own_of}
use Rattle.law_frame.proofs.pg_run.pg_names.Holding.{fill_same}
use Rattle.law_frame.specs.pg_run.pg_register.declared.flag.Flag.{Flag}
use Rattle.law_frame.specs.pg_run.pg_register.Flag.{flag_of}
use Rattle.law_frame.specs.pg_run.pg_store.declared.store.Store.{Store}
use Rattle.law_frame.specs.pg_run.pg_store.Births.{has_birth}
use Rattle.law_frame.specs.pg_run.pg_store.Store.{is_full, replica_at, with_names}
use Rattle.law_frame.specs.pg_run.pg_store.Together.{AreTogether, birth_at}
use Rattle.law_frame.specs.pg_run.pg_pieces.declared.accepting.EdgeUse.TheVariants as manner
use Rattle.law_frame.specs.pg_run.pg_pieces.Accepting.{accept, is_accepted, is_current, with_gone}
use Rattle.law_frame.specs.pg_run.pg_store.Links.{knows_later}
use Rattle.law_frame.proofs.pg_run.pg_store.Pairs.{as_before}
use Rattle.law_frame.specs.pg_run.pg_pieces.Done.{Done, idle}
use Rattle.law_frame.specs.pg_run.pg_pieces.Making.{raise_flag}
use Rattle.law_frame.specs.pg_run.pg_repair.Filling.{few_golds, fill, full, invite, invited, is_bronze, live_golds, raise_if_few}
use Rattle.law_frame.proofs.pg_run.theory_flood_pieces.Choices.{chosen, decided}
use Rattle.law_births.specs.Flags.{AnyBye}
use Rattle.law_births.proofs.Here.{of_birth}
use Rattle.law_births.proofs.Pieces.{fill_stays}
use Rattle.law_births.proofs.StoreSays.{say_fill}
use Rattle.law_golds.proofs.Fine.{IsFine, Knows, NoFlags, fine_flag, fine_goes, fine_silent, no_flags, same_made}
use Rattle.law_golds.proofs.Kept.{GoesOn, fill_flags, flags_at, held_born, same_goes_on}
use Rattle.law_golds.proofs.Known.{all_sent_less, store_less}
use Rattle.law_golds.proofs.Says.{Says, said_asked}

-- ---- what is held

held_by : (o : Option InodeValue) → is_some o ≡ true → (x : InodeValue) × (o ≡ Some x)
held_by None h = absurd (let z : false ≡ true = h in cc)
held_by (Some x) h = (x, refl)

own_by : (o : Option InodeValue) → is_full_of o ≡ true → (own : Attributes) × (own_of o ≡ Some own)
own_by None h = absurd (let z : false ≡ true = h in cc)
own_by (Some x) h = (x.own, refl)

pub own_of_full : (names : NamesValue) (f : FileId) → names_full names f ≡ true
    → (own : Attributes) × (own_at names f ≡ Some own)
own_of_full names f h = own_by (known names f) h

blank_by : (f : FileId) (n : ℕ) (g : Flag) (o : Option Attributes) → flag_of (or_blank f o).flags n ≡ Some g
    → (own : Attributes) × (o ≡ Some own)
blank_by f n g None h = absurd (let z : ◌≡◌ {A = Option Flag} None (Some g) = h in cc)
blank_by f n g (Some own) h = (own, refl)

-- what a flag is known of
pub own_of_known : (names : NamesValue) (f : FileId) (n : ℕ) (g : Flag) → flag_of (flags_at names f) n ≡ Some g
    → (own : Attributes) × (own_at names f ≡ Some own)
own_of_known names f n g h = blank_by f n g (own_at names f) h

-- what server s does, where Q was known before
module _ (Q : FileId → Flag → Type 0) (s : ℕ) (a : Store) (together : AreTogether a) where
  -- where it has gone on it is fine
  abbrev pub MayGo : Done → Type 0
  MayGo d = GoesOn a d.store → IsFine Q s d

  -- no flag was made
  pub still : (w : Work) → IsFine Q s (idle a w) → NoFlags w.made → (us : List Update) → NoFlags us
      → (d : Done) → Says Q s us d → MayGo d
  still w k none us more d says on =
      let less : (f : FileId) (g : Flag) → Q f g → Knows Q s d.work.made f g = (λ f g h. inl h) in
      fine_goes Q s (idle a w) d k (record {
        on = λ f g there. absurd (none f g there);
        back = λ f g there. absurd (more f g (subst (Among (update.Flag f g)) says.made there));
      })
      (λ f g there was. absurd (none f g there))
      (store_less Q (Knows Q s d.work.made) less s d.store says.store)
      (all_sent_less Q (Knows Q s d.work.made) less d.work.sent says.sent)
      (all_sent_less Q (Knows Q s d.work.made) less d.work.tail says.tail) on

  -- ---- a flag is raised where few golds are seen

  few_fine : (b : Store) (v : Work) → IsFine Q s (idle b v) → (f : FileId) (n : ℕ) → birth_at b f ≡ Some n → is_full b f ≡ true
      → IsFine Q s (raise_if_few b f v)
  few_fine b v k f n birth all =
      let own = own_of_full b.names f all in
      chosen (IsFine Q s) (nat_lt (live_golds b f) few_golds) (raise_flag b f v) (idle b v) (fine_flag Q s b v k f true n birth own.0 own.1) k

  -- ---- what is filled

  -- of a birth
  module _ (w : Work) (k : IsFine Q s (idle a w)) where
    filled : (f : FileId) → IsFine Q s (idle (with_names a (fill_names a.names f)) w)
    filled f =
        let b = with_names a (fill_names a.names f) in
        fine_silent Q s (idle a w) (idle b w) k (same_made w.made w.made refl) (fill_stays a f).before.births
        (say_fill (Knows Q s w.made) AnyBye s a f k.store) refl refl
        (same_goes_on a b (fill_stays a f).before (fill_flags a.names f))

    pub fill_fine : (f : FileId) (n : ℕ) → birth_at a f ≡ Some n → IsFine Q s (fill a f w)
    fill_fine f n birth =
        let b = with_names a (fill_names a.names f) in
        let x = held_by (known a.names f) (held_born a together f n birth) in
        few_fine b w (filled f) f n ((fill_stays a f).before.births f ∙ birth) (fill_same a.names f x.0 x.1)

    -- A FILLING REPLICA IS FULL
    pub full_fine : (ends : Ends) → IsFine Q s (full a ends w)
    full_fine ends =
        let f = ends.file in
        let accepted = is_accepted a w.from manner.Answers ends in
        decided (IsFine Q s) (accepted && not (is_full a f)) (fill a f w) (idle a w)
        (λ t.
        let both = and_parts accepted (not (is_full a f)) t in
        let born = (and_parts (has_birth a f ends.receiver) _
        (and_parts (is_current a w.from ends) _ both.0).0).0 in
        fill_fine f ends.receiver (of_birth (replica_at a f) ends.receiver born))
        (λ e. k)

    -- ---- a full bronze replica is asked to be gold

    module _ (none : NoFlags w.made) (says : Says Q s [] (idle a w)) (ends : Ends) where
      abbrev Met : Done
      Met = accept a ends manner.Needs w

      -- a message that links nobody leaves what is held
      of_met : (P : Store → Type 0) → P a → P Met.store
      of_met P h =
          let later = knows_later a ends.file w.from ends.sender in
          chosen (λ (d : Done). P d.store) (has_birth a ends.file ends.receiver) (cond later (idle a w) (idle a w)) (idle a (with_gone a ends manner.Needs w))
          (chosen (λ (d : Done). P d.store) later (idle a w) (idle a w) h h) h

      met_fine : IsFine Q s Met
      met_fine =
          still w k none [] no_flags Met (said_asked Q s [] a ends w says)
          (of_met (λ (b : Store). GoesOn a b) (same_goes_on a a (as_before a) (λ q. refl)))

      pub invite_fine : IsFine Q s (invite a ends w)
      invite_fine =
          let f = ends.file in
          decided (IsFine Q s) (is_accepted a w.from manner.Needs ends) (invited ends Met) Met
          (λ t.
          let born = (and_parts (has_birth a f ends.receiver) _ (and_parts (is_current a w.from ends) _ t).0).0 in
          let birth : birth_at Met.store f ≡ Some ends.receiver =
          of_met (λ (b : Store). birth_at b f ≡ Some ends.receiver) (of_birth (replica_at a f) ends.receiver born) in
          decided (IsFine Q s) (is_bronze Met.store f) (raise_if_few Met.store f Met.work) Met
          (λ u. few_fine Met.store Met.work met_fine f ends.receiver birth (and_parts (is_full Met.store f) _ u).0)
          (λ no. met_fine))
          (λ no. met_fine)
