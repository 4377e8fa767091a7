-- A full gold thing is demoted where another live gold one is seen on a clean edge: that one is
-- seen on.
use Rattle.std.proofs.Common.{ℕ, ◌≡◌, ◌≢◌, not, true, false, cond, List, [], ◌∷◌, ◌++◌, Option, None, Some, All, refl, sym, ap, subst, ◌∙◌, inl, inr}
use Rattle.std.proofs.lemmas.Bool.{and_parts, ne_eqb, not-true}
use Rattle.std.proofs.lemmas.Option.{same_Some}
use Rattle.pg_run.specs.pg_base.declared.id.FileId.{FileId}
use Rattle.pg_run.specs.pg_content.Content.{Among}
use Rattle.pg_run.proofs.pg_content.Members.{among_all}
use Rattle.pg_run.specs.pg_entries.declared.entry.Entry.{Entry}
use Rattle.pg_run.specs.pg_msg.declared.update.Update.{Update}
use Rattle.pg_run.specs.pg_msg.declared.update.Update.TheVariants as update
use Rattle.pg_run.specs.pg_msg.declared.work.Work.{Work}
use Rattle.pg_run.specs.pg_msg.Work.{with_made}
use Rattle.pg_run.specs.pg_names.declared.attributes.Attributes.{Attributes}
use Rattle.pg_run.specs.pg_names.Names.{cell_at, or_blank, own_at}
use Rattle.pg_run.proofs.pg_names.Lookups.{flag_same}
use Rattle.pg_run.specs.pg_register.declared.flag.Flag.{Flag}
use Rattle.pg_run.specs.pg_register.Flag.{flag_of, is_live, is_removed, newest}
use Rattle.pg_run.proofs.pg_register.ByServer.{flag_of-join_flag}
use Rattle.pg_run.specs.pg_replica.declared.replica.Replica.{Replica}
use Rattle.pg_run.specs.pg_pieces.Done.{Done}
use Rattle.pg_run.specs.pg_pieces.Golds.{flags_of}
use Rattle.pg_run.specs.pg_pieces.Making.{lower_flag, own_next}
use Rattle.pg_run.specs.pg_store.declared.store.Store.{Store}
use Rattle.pg_run.specs.pg_store.Links.{is_clean}
use Rattle.pg_run.specs.pg_store.Seen.{removed_of}
use Rattle.pg_run.specs.pg_store.Store.{is_newer_flag, put_flag, replica_at, take_flag}
use Rattle.pg_run.specs.theory_flood_pieces.Whole.{IsWhole}
use Rattle.pg_run.proofs.theory_flood_pieces.Choices.{chosen}
use Rattle.law_golds.specs.law_births.Flags.{SaysNames}
use Rattle.law_golds.proofs.law_births.NamesSay.{says_flag}
use Rattle.law_golds.proofs.Flags.{there_found}
use Rattle.pg_run.proofs.Still.{flag_still}
use Rattle.law_repair.proofs.GoldsThere.{flag_at, own_of_known}
use Rattle.law_repair.proofs.Settling.{Stands, UpTo}
use Rattle.law_repair.proofs.EventEnds.{clean_other, taken_removed}

module _ (n s : ℕ) (a : Store) (file : FileId) (whole : IsWhole n s a) (x : Replica) (held : replica_at a file ≡ Some x)
    (passing : (own : Attributes) → own_at a.names file ≡ Some own → (dir : FileId) (e : Entry) → cell_at a.names dir file ≡ Some e → e.flags ≡ own.flags)
    (g : Flag) (seen : Among g (flags_of a file)) (lives : is_live (removed_of a) g ≡ true) (clean : is_clean a file g.server g.birth ≡ true) (work : Work)
    (empty : work.made ≡ []) where
  abbrev G : Flag
  G = own_next a file false

  abbrev pub D : Done
  D = lower_flag a file work

  abbrev pub raised : g.raised ≡ true
  raised = (and_parts g.raised (not (is_removed (removed_of a) g.server)) lives).0

  other : g.server ≢ s
  other = clean_other n s a file x whole held g.server g.birth clean

  flags_are : (own : Attributes) → own_at a.names file ≡ Some own → flags_of a file ≡ own.flags
  flags_are own at = ap (λ (o : Option Attributes). (or_blank file o).flags) at

  one_by : (own : Attributes) → own_at a.names file ≡ Some own → (h : Flag) → Among h own.flags → h.server ≡ g.server → h ≡ g
  one_by own at h there same =
      let sorted = whole.names.sorted file own at in
      let mine = there_found own.flags h sorted there in
      let its = there_found own.flags g sorted (subst (Among g) (flags_are own at) seen) in
      same_Some h g (sym mine ∙ ap (flag_of own.flags) same ∙ its)

  all_up : (own : Attributes) → own_at a.names file ≡ Some own → (f : FileId) (hs : List Flag) → (f ≡ file → hs ≡ own.flags) → All (UpTo file g f) hs
  all_up own at f hs same =
      among_all (UpTo file g f) hs (λ h there e server. inr (one_by own at h (subst (Among h) (same e) there) server))

  own_found : (own : Attributes) × (own_at a.names file ≡ Some own)
  own_found = own_of_known a file g.server g (there_at (own_at a.names file) refl)
    where
      there_at : (o : Option Attributes) → own_at a.names file ≡ o → flag_at a file g.server ≡ Some g
      there_at None at = absurd (subst (Among g) (ap (λ (p : Option Attributes). (or_blank file p).flags) at) seen)
      there_at (Some own) at =
          ap (λ (fs : List Flag). flag_of fs g.server) (ap (λ (p : Option Attributes). (or_blank file p).flags) at)
          ∙ there_found own.flags g (whole.names.sorted file own at) (subst (Among g) (ap (λ (p : Option Attributes). (or_blank file p).flags) at) seen)

  says_before : SaysNames (UpTo file g) s a.names
  says_before = record {
    server = whole.server;
    own = λ f own at. all_up own_found.0 own_found.1 f own.flags
        (λ e. ap (λ (o : Attributes). o.flags) (same_Some own own_found.0 (sym at ∙ ap (own_at a.names) e ∙ own_found.1)));
    cells = λ dir child e at. (
      whole.names.children dir child e at,
      all_up own_found.0 own_found.1 child e.flags (λ same. passing own_found.0 own_found.1 dir e (ap (cell_at a.names dir) (sym same) ∙ at)),
    );
  }

  there_before : flag_at a file g.server ≡ Some g
  there_before =
      ap (λ (fs : List Flag). flag_of fs g.server) (flags_are own_found.0 own_found.1)
      ∙ there_found own_found.0.flags g (whole.names.sorted file own_found.0 own_found.1) (subst (Among g) (flags_are own_found.0 own_found.1) seen)

  not_mine : G.server ≡ g.server → ⊥
  not_mine e = other (sym e ∙ whole.server)

  there_after : flag_at (take_flag a file G) file g.server ≡ Some g
  there_after =
      chosen (λ (b : Store). flag_at b file g.server ≡ Some g) (is_newer_flag a file G) (put_flag a file G) a
      (ap (λ (o : Option Attributes). flag_of (or_blank file o).flags g.server) (flag_same a.names file G own_found.0 own_found.1)
      ∙ flag_of-join_flag G own_found.0.flags g.server
      ∙ ap (λ t. cond t (newest (flag_of own_found.0.flags g.server) (Some G)) (flag_of own_found.0.flags g.server)) (ne_eqb G.server g.server not_mine)
      ∙ ap (λ (fs : List Flag). flag_of fs g.server) (sym (flags_are own_found.0 own_found.1)) ∙ there_before) there_before

  only : (h : Flag) → Among (update.Flag file h) (update.Flag file G ∷ []) → h.raised ≡ false
  only h (inl same) = (let z : update.Flag file h ≡ update.Flag file G = same in let e : h ≡ G = cc in ap (λ (f : Flag). f.raised) e)
  only h (inr rest) = absurd rest

  made_is : D.work.made ≡ update.Flag file G ∷ []
  made_is = (flag_still a file G (with_made work (update.Flag file G))).made ∙ ap (λ (us : List Update). us ++ update.Flag file G ∷ []) empty

  pub demoted_stands : IsWhole n s D.store → Stands n s file g raised D.store D.work
  demoted_stands after = record {
    whole = after;
    says = chosen (λ (b : Store). SaysNames (UpTo file g) s b.names) (is_newer_flag a file G) (put_flag a file G) a
        (says_flag (UpTo file g) s a.names file G (λ same at. absurd (not_mine at)) says_before) says_before;
    there = there_after;
    live = ap (λ (rs : List ℕ). is_removed rs g.server) (taken_removed a file G)
        ∙ not-true (is_removed (removed_of a) g.server) (and_parts g.raised (not (is_removed (removed_of a) g.server)) lives).1;
    none = λ h there. only h (subst (Among (update.Flag file h)) made_is there);
  }
