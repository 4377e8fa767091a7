-- In the midst of an event: what is known of flags is what was known before, or was made; each is
-- up to its server's own.
use Rattle.std.proofs.Common.{ℕ, ◌≡◌, ◌<◌, Bool, List, Some, [], ◌∷◌, ◌++◌, All, refl, sym, ap, subst, ◌∙◌, inl, inr, ◌⊎◌, arith}
use Rattle.std.proofs.lemmas.Option.{same_Some}
use Rattle.law_frame.specs.pg_run.pg_base.declared.id.FileId.{FileId}
use Rattle.law_frame.specs.pg_run.pg_content.Content.{Among}
use Rattle.law_frame.specs.pg_run.pg_msg.declared.update.Update.{Update}
use Rattle.law_frame.specs.pg_run.pg_msg.declared.update.Update.TheVariants as update
use Rattle.law_frame.specs.pg_run.pg_msg.declared.work.Work.{Work}
use Rattle.law_frame.specs.pg_run.pg_msg.Work.{with_made}
use Rattle.law_frame.specs.pg_run.pg_names.declared.attributes.Attributes.{Attributes}
use Rattle.law_frame.specs.pg_run.pg_names.Names.{own_at}
use Rattle.law_frame.specs.pg_run.pg_register.declared.flag.Flag.{Flag}
use Rattle.law_frame.specs.pg_run.pg_register.Flag.{flag_of}
use Rattle.law_frame.specs.pg_run.pg_store.declared.store.Store.{Store}
use Rattle.law_frame.specs.pg_run.pg_store.Seen.{server_of}
use Rattle.law_frame.specs.pg_run.pg_store.Together.{birth_at}
use Rattle.law_frame.specs.pg_run.pg_pieces.Done.{Done, idle}
use Rattle.law_frame.specs.pg_run.pg_pieces.Making.{make_flag, own_next}
use Rattle.law_frame.proofs.pg_run.theory_flood_pieces.Flags.{flag_server}
use Rattle.law_births.specs.Flags.{AnyBye, SaysStore}
use Rattle.law_births.proofs.Joined.{found_says}
use Rattle.law_births.proofs.StoreSays.{own_says, say_flag}
use Rattle.law_births.proofs.Has.{from_has}
use Rattle.law_births.proofs.Pieces.{flag_stays}
use Rattle.law_golds.proofs.Kept.{GoesOn, flags_at, past_goes}
use Rattle.law_golds.proofs.Known.{all_sent_less, store_less}
use Rattle.law_golds.proofs.Own.{IsOwn, Stands, next_birth, next_later, next_own, own_goes, own_next_on, past_next}
use Rattle.law_golds.proofs.Says.{SaysSent}
use Rattle.law_frame.proofs.pg_run.Still.{flag_still}

-- ---- lists of what was made

-- this flag of the thing was made
abbrev pub IsMade : List Update → FileId → Flag → Type 0
IsMade us f g = Among (update.Flag f g) us

-- there is none
abbrev pub NoFlags : List Update → Type 0
NoFlags us = (f : FileId) (g : Flag) → IsMade us f g → ⊥

pub no_flags : NoFlags []
no_flags f g there = absurd there

-- the same flags were made
pub record SameMade (us vs : List Update) : Type 0 where
  pub on : (f : FileId) (g : Flag) → IsMade us f g → IsMade vs f g
  pub back : (f : FileId) (g : Flag) → IsMade vs f g → IsMade us f g

pub same_made : (us vs : List Update) → vs ≡ us → SameMade us vs
same_made us vs same = record {
  on = λ f g there. subst (Among (update.Flag f g)) (sym same) there;
  back = λ f g there. subst (Among (update.Flag f g)) same there;
}

pub either_part : (us vs : List Update) (u : Update) → Among u (us ++ vs) → Among u us ⊎ Among u vs
either_part [] vs u there = inr there
either_part (w ∷ us) vs u (inl same) = inl (inl same)
either_part (w ∷ us) vs u (inr rest) = elim (either_part us vs u rest) [
  | inl here ↦ inl (inr here)
  | inr here ↦ inr here
]

pub front_part : (us vs : List Update) (u : Update) → Among u us → Among u (us ++ vs)
front_part (w ∷ us) vs u (inl same) = inl same
front_part (w ∷ us) vs u (inr rest) = inr (front_part us vs u rest)
front_part [] vs u there = absurd there

pub last_part : (us : List Update) (v : Update) → Among v (us ++ v ∷ [])
last_part [] v = inl refl
last_part (u ∷ us) v = inr (last_part us v)

-- what holds no flag may stand behind
pub no_more : (us vs : List Update) → NoFlags vs → SameMade us (us ++ vs)
no_more us vs none = record {
  on = λ f g there. front_part us vs (update.Flag f g) there;
  back = λ f g there. elim (either_part us vs (update.Flag f g) there) [
    | inl here ↦ here
    | inr here ↦ absurd (none f g here)
  ];
}

thing_is : (f q : FileId) (g h : Flag) → update.Flag f g ≡ update.Flag q h → f ≡ q
thing_is f q g h e = cc

flag_is : (f q : FileId) (g h : Flag) → update.Flag f g ≡ update.Flag q h → g ≡ h
flag_is f q g h e = cc

-- ---- an event at server s, where Q was known before

module _ (Q : FileId → Flag → Type 0) (s : ℕ) where
  -- a flag is known: it was before, or was made
  abbrev pub Knows : List Update → FileId → Flag → Type 0
  Knows us f g = Q f g ⊎ IsMade us f g

  -- own: those of this server are up to its own, or of births that are past
  -- made: what was made is this server's, of the birth that its replica has
  -- one: no two flags of a thing, of one server and birth, have one number
  pub record IsFine (d : Done) : Type 0 where
    pub store : SaysStore (Knows d.work.made) AnyBye s d.store
    pub sent : All (SaysSent (Knows d.work.made)) d.work.sent
    pub tail : All (SaysSent (Knows d.work.made)) d.work.tail
    pub own : (f : FileId) (g : Flag) → Knows d.work.made f g → g.server ≡ s → Stands s d.store f g
    pub made : (f : FileId) (g : Flag) → IsMade d.work.made f g → (g.server ≡ s) × (birth_at d.store f ≡ Some g.birth)
    pub one : (f : FileId) (g h : Flag) → Knows d.work.made f g → Knows d.work.made f h
        → g.server ≡ h.server → g.birth ≡ h.birth → g.number ≡ h.number → g ≡ h

  knows_on : (us vs : List Update) → SameMade us vs → (f : FileId) (g : Flag) → Knows us f g → Knows vs f g
  knows_on us vs same f g (inl was) = inl was
  knows_on us vs same f g (inr there) = inr (same.on f g there)

  knows_back : (us vs : List Update) → SameMade us vs → (f : FileId) (g : Flag) → Knows vs f g → Knows us f g
  knows_back us vs same f g (inl was) = inl was
  knows_back us vs same f g (inr there) = inr (same.back f g there)

  -- a flag that a server knows of itself is its own, of the birth of its replica
  pub found_is : (us : List Update) (b : Store) → SaysStore (Knows us) AnyBye s b → (f : FileId) (y : Flag)
      → flag_of (flags_at b.names f) s ≡ Some y → Knows us f y × (y.server ≡ s)
  found_is us b k f y there = (
    found_says (Knows us f) (flags_at b.names f) s y (own_says (Knows us) AnyBye s b f k) there,
    flag_server (flags_at b.names f) s y there,
  )

  -- the replicas of which flags were made are held on
  abbrev pub HoldsMade : Done → Done → Type 0
  HoldsMade d e = (f : FileId) (g : Flag) → IsMade d.work.made f g → birth_at d.store f ≡ Some g.birth
      → birth_at e.store f ≡ Some g.birth

  -- IT GOES ON, and no flag is made
  pub fine_goes : (d e : Done) → IsFine d → SameMade d.work.made e.work.made → HoldsMade d e
      → SaysStore (Knows e.work.made) AnyBye s e.store → All (SaysSent (Knows e.work.made)) e.work.sent
      → All (SaysSent (Knows e.work.made)) e.work.tail → GoesOn d.store e.store → IsFine e
  fine_goes d e k same held store sent tail on = record {
    store = store;
    sent = sent;
    tail = tail;
    own = λ f g there server. own_by f g (k.own f g (back f g there) server);
    made = λ f g there. (
        let there_before = same.back f g there in
        let was = k.made f g there_before in
        (was.0, held f g there_before was.1));
    one = λ f g h a b. k.one f g h (back f g a) (back f h b);
  }
    where
      back : (f : FileId) (g : Flag) → Knows e.work.made f g → Knows d.work.made f g
      back f g there = knows_back d.work.made e.work.made same f g there

      -- a flag that is found then is of the birth of the replica, or of an earlier one
      born_by : (f : FileId) (g y : Flag) → IsOwn s d.store f g → Stands s d.store f y → (g.birth ≡ y.birth) ⊎ (y.birth < g.birth)
      born_by f g y was (inl own) = inl (same_Some g.birth y.birth (sym was.birth ∙ own.birth))
      born_by f g y was (inr past) = inr (past.less g.birth (from_has d.store f g.birth (inl was.birth)))

      one_by : (f : FileId) (g : Flag) (was : IsOwn s d.store f g) (y : Flag) → flag_of (flags_at e.store.names f) s ≡ Some y
          → was.own.birth ≡ y.birth → was.own.number ≡ y.number → was.own ≡ y
      one_by f g was y is birth number =
          let x = found_is d.work.made d.store k.store f was.own was.there in
          let r = found_is e.work.made e.store store f y is in
          k.one f was.own y x.0 (back f y r.0) (x.1 ∙ sym r.1) birth number

      own_by : (f : FileId) (g : Flag) → Stands s d.store f g → Stands s e.store f g
      own_by f g (inl was) =
          own_goes s d.store e.store on f g was
          (λ y is. let r = found_is e.work.made e.store store f y is in born_by f g y was (k.own f y (back f y r.0) r.1))
          (one_by f g was)
      own_by f g (inr past) = inr (past_goes on f g.birth past)

  -- what is said of what is known is said of what is known then
  pub store_on : (d e : Done) → SameMade d.work.made e.work.made → (b : Store)
      → SaysStore (Knows d.work.made) AnyBye s b → SaysStore (Knows e.work.made) AnyBye s b
  store_on d e same b k =
      store_less (Knows d.work.made) (Knows e.work.made) (knows_on d.work.made e.work.made same) s b k

  -- the same was sent
  pub fine_silent : (d e : Done) → IsFine d → SameMade d.work.made e.work.made
      → ((f : FileId) → birth_at e.store f ≡ birth_at d.store f)
      → SaysStore (Knows d.work.made) AnyBye s e.store → e.work.sent ≡ d.work.sent → e.work.tail ≡ d.work.tail
      → GoesOn d.store e.store → IsFine e
  fine_silent d e k same births store sent tail on =
      let less = knows_on d.work.made e.work.made same in
      fine_goes d e k same (λ f g there was. births f ∙ was) (store_on d e same e.store store)
      (subst (All (SaysSent (Knows e.work.made))) (sym sent)
      (all_sent_less (Knows d.work.made) (Knows e.work.made) less d.work.sent k.sent))
      (subst (All (SaysSent (Knows e.work.made))) (sym tail)
      (all_sent_less (Knows d.work.made) (Knows e.work.made) less d.work.tail k.tail)) on

  -- ---- it makes its next flag of a thing that it holds

  module _ (b : Store) (w : Work) (k : IsFine (idle b w)) (f : FileId) (raised : Bool) (n : ℕ)
      (here : birth_at b f ≡ Some n) (mine : Attributes) (held : own_at b.names f ≡ Some mine) where
    abbrev flag : Flag
    flag = own_next b f raised

    abbrev v : Work
    v = with_made w (update.Flag f flag)

    abbrev Then : Done
    Then = make_flag b f flag w

    server : server_of b ≡ s
    server = k.store.names.server

    born_of : (x : Flag) → Stands s b f x → (x.birth ≡ n) ⊎ (x.birth < n)
    born_of x (inl own) = inl (same_Some x.birth n (sym own.birth ∙ here))
    born_of x (inr past) = inr (past.less n (from_has b f n (inl here)))

    born : (x : Flag) → flag_of (flags_at b.names f) s ≡ Some x → (x.birth ≡ n) ⊎ (x.birth < n)
    born x there = let r = found_is w.made b k.store f x there in born_of x (k.own f x r.0 r.1)

    made_is : Then.work.made ≡ w.made ++ update.Flag f flag ∷ []
    made_is = (flag_still b f flag v).made

    more : (q : FileId) (g : Flag) → Knows w.made q g → Knows Then.work.made q g
    more q g (inl was) = inl was
    more q g (inr there) =
        inr (subst (Among (update.Flag q g)) (sym made_is) (front_part w.made (update.Flag f flag ∷ []) (update.Flag q g) there))

    now : Knows Then.work.made f flag
    now = inr (subst (Among (update.Flag f flag)) (sym made_is) (last_part w.made (update.Flag f flag)))

    -- a flag that is known then was before, or is this one
    one_of : (q : FileId) (g : Flag) → Among (update.Flag q g) (update.Flag f flag ∷ []) → (q ≡ f) × (g ≡ flag)
    one_of q g (inl same) = (thing_is q f g flag same, flag_is q f g flag same)
    one_of q g (inr rest) = absurd rest

    parts : (q : FileId) (g : Flag) → Knows Then.work.made q g → Knows w.made q g ⊎ ((q ≡ f) × (g ≡ flag))
    parts q g (inl was) = inl (inl was)
    parts q g (inr there) =
        elim (either_part w.made (update.Flag f flag ∷ []) (update.Flag q g) (subst (Among (update.Flag q g)) made_is there)) [
          | inl old ↦ inl (inr old)
          | inr new ↦ inr (one_of q g new)
        ]

    abbrev MadeHere : FileId → Flag → Type 0
    MadeHere q g = (g.server ≡ s) × (birth_at Then.store q ≡ Some g.birth)

    made_now : MadeHere f flag
    made_now = (server, (next_own s b f raised server n here mine held born).birth)

    made_then : (q : FileId) (g : Flag) → IsMade Then.work.made q g → MadeHere q g
    made_then q g there =
        elim (either_part w.made (update.Flag f flag ∷ []) (update.Flag q g) (subst (Among (update.Flag q g)) made_is there)) [
          | inl old ↦ (let was = k.made q g old in (was.0, (flag_stays b f flag).before.births q ∙ was.1))
          | inr new ↦ (
              let one = one_of q g new in
              subst (λ (x : FileId). MadeHere x g) (sym one.0) (subst (MadeHere f) (sym one.1) made_now))
        ]

    own_on : (q : FileId) (g : Flag) → Stands s b q g → Stands s Then.store q g
    own_on q g (inl own) = inl (own_next_on s b f raised server n here mine held born q g own)
    own_on q g (inr past) = inr (past_next s b f raised server n here mine held born q g.birth past)

    own_then : (q : FileId) (g : Flag) → g.server ≡ s → Knows w.made q g ⊎ ((q ≡ f) × (g ≡ flag)) → Stands s Then.store q g
    own_then q g is (inl was) = own_on q g (k.own q g was is)
    own_then q g is (inr new) =
        let P : FileId → Type 0 = (λ x. IsOwn s Then.store x g) in
        let R : Flag → Type 0 = (λ x. IsOwn s Then.store f x) in
        inl (subst P (sym new.0) (subst R (sym new.1) (next_own s b f raised server n here mine held born)))

    -- no flag that was known has its number
    not_equal : (m j : ℕ) → m < j → m ≡ j → ⊥
    not_equal m j less same = absurd (omega arith)

    fresh_by : (g : Flag) → Stands s b f g → g.birth ≡ flag.birth → g.number ≡ flag.number → ⊥
    fresh_by g (inl own) birth number =
        not_equal g.number flag.number (next_later s b f raised server n here mine held born g own).1 number
    fresh_by g (inr past) birth number =
        not_equal g.birth n (past.less n (from_has b f n (inl here)))
        (birth ∙ next_birth s b f raised server n here mine held born)

    fresh : (q : FileId) (g h : Flag) → Knows w.made q g → q ≡ f → h ≡ flag → g.server ≡ h.server → g.birth ≡ h.birth
        → g.number ≡ h.number → ⊥
    fresh q g h was thing is at birth number =
        let P : FileId → Type 0 = (λ x. Knows w.made x g) in
        let there : g.server ≡ s = at ∙ ap (λ (x : Flag). x.server) is ∙ server in
        fresh_by g (k.own f g (subst P thing was) there) (birth ∙ ap (λ (x : Flag). x.birth) is)
        (number ∙ ap (λ (x : Flag). x.number) is)

    one_then : (q : FileId) (g h : Flag) → Knows w.made q g ⊎ ((q ≡ f) × (g ≡ flag))
        → Knows w.made q h ⊎ ((q ≡ f) × (h ≡ flag)) → g.server ≡ h.server → g.birth ≡ h.birth
        → g.number ≡ h.number → g ≡ h
    one_then q g h (inl a) (inl b) at birth number = k.one q g h a b at birth number
    one_then q g h (inl a) (inr b) at birth number = absurd (fresh q g h a b.0 b.1 at birth number)
    one_then q g h (inr a) (inl b) at birth number = absurd (fresh q h g b a.0 a.1 (sym at) (sym birth) (sym number))
    one_then q g h (inr a) (inr b) at birth number = a.1 ∙ sym b.1

    -- A FLAG IS RAISED, OR LOWERED
    pub fine_flag : IsFine Then
    fine_flag =
        let mail = (flag_still b f flag v).mail in
        record {
          store = say_flag (Knows Then.work.made) AnyBye s b f flag now
              (store_less (Knows w.made) (Knows Then.work.made) more s b k.store);
          sent = subst (All (SaysSent (Knows Then.work.made))) (sym mail.sent)
              (all_sent_less (Knows w.made) (Knows Then.work.made) more w.sent k.sent);
          tail = subst (All (SaysSent (Knows Then.work.made))) (sym mail.tail)
              (all_sent_less (Knows w.made) (Knows Then.work.made) more w.tail k.tail);
          own = λ q g there is. own_then q g is (parts q g there);
          made = made_then;
          one = λ q g h a b. one_then q g h (parts q g a) (parts q h b);
        }
