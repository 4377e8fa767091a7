-- What full replicas know of a gold one that stays gold, they know behind one event more.
use Rattle.std.proofs.Common.{ℕ, ◌≡◌, ◌≢◌, ◌≤◌, ◌+◌, true, false, List, [], ◌∷◌, ◌++◌, Option, Some, option_map, sym, ap, subst, ◌∙◌, inl, inr, ◌⊎◌, arith}
use Rattle.std.specs.Prelude.{Contains}
use Rattle.std.proofs.lemmas.Bool.{false≢true}
use Rattle.std.proofs.lemmas.List.Elements.{All-contains}
use Rattle.std.proofs.lemmas.Option.{same_Some}
use Rattle.pg_run.specs.pg_base.declared.id.FileId.{FileId}
use Rattle.pg_run.specs.pg_base.declared.id.Kind.{Kind}
use Rattle.pg_run.specs.pg_call.declared.call.Call.TheVariants as call
use Rattle.pg_run.specs.pg_calls.Naming.{next_id}
use Rattle.pg_run.proofs.pg_calls.Walked.{full_held}
use Rattle.pg_run.specs.pg_edges.declared.key.Key.TheVariants as key
use Rattle.pg_run.specs.pg_entries.declared.cell.Cell.TheVariants as cell
use Rattle.pg_run.specs.pg_event.declared.event.Event.{Event}
use Rattle.pg_run.specs.pg_msg.declared.message.Ends.{Ends}
use Rattle.pg_run.specs.pg_msg.declared.message.Message.TheVariants as message
use Rattle.pg_run.specs.pg_msg.declared.message.Sent.{Sent}
use Rattle.pg_run.specs.pg_msg.declared.update.Update.TheVariants as update
use Rattle.pg_run.specs.pg_register.declared.flag.Flag.{Flag}
use Rattle.pg_run.specs.pg_register.Flag.{is_older}
use Rattle.pg_run.specs.pg_replica.declared.replica.Replica.{Replica}
use Rattle.pg_run.specs.pg_pieces.Golds.{is_gold}
use Rattle.pg_run.specs.pg_server.declared.input.Input.{Input}
use Rattle.pg_run.specs.pg_server.Local.{effect, first_effect}
use Rattle.pg_run.specs.pg_store.declared.store.Store.{Store}
use Rattle.pg_run.specs.pg_store.Cells.{flag_cell}
use Rattle.pg_run.specs.pg_store.Store.{is_full}
use Rattle.pg_run.specs.pg_store.Together.{BirthsMove, IsOver, birth_at}
use Rattle.pg_run.proofs.pg_store.Over.{moves_then, over_stays}
use Rattle.pg_run.specs.theory_flood_pieces.Growing.{Grows}
use Rattle.pg_run.specs.theory_flood_pieces.UpTo.{IsFlagKnownBy}
use Rattle.pg_run.specs.theory_flood_pieces.Whole.{IsWhole}
use Rattle.law_golds.proofs.law_births.Here.{birth_of_held}
use Rattle.law_full.specs.Filled.{SaysFull}
use Rattle.law_golds.specs.law_order.Named.{IsMade}
use Rattle.pg_run.specs.Acknowledged.{IsHadThere}
use Rattle.pg_run.specs.Journal.{mail}
use Rattle.pg_run.specs.Laws.{TakesIn}
use Rattle.pg_run.specs.Run.{World, is_live, run}
use Rattle.pg_run.proofs.Frame.{HasCome, live_is}
use Rattle.pg_run.proofs.Lists.{among_contained, among_parts, contained_among}
use Rattle.law_repair.specs.Facts.{ForgetsIt, IsCleanEdge, MakesIt, TellsFull}
use Rattle.law_repair.specs.Given.{StandOn}
use Rattle.law_repair.specs.Kept.{Forgets, IsGoldAt}
use Rattle.law_repair.proofs.FlagHad.{KnowsUp, flag_had, grown_by, same_number}
use Rattle.law_repair.proofs.GoldsThere.{OwnFlag, flag_at, held_not_over, known_of, not_older_itself, own_of_known, own_there, top}
use Rattle.law_repair.proofs.Steps.{IsActed, IsIdle, acts_live, called_is, live_before, one_step}
use Rattle.law_repair.proofs.Agreed.{Agrees, AreAgreed, agrees_by}

-- ---- one event more

module _ (n : ℕ) (on : StandOn n) (events : List Event) (event : Event) (file : FileId) (k birth : ℕ) where
  abbrev W : World
  W = run n events

  abbrev More : List Event
  More = events ++ event ∷ []

  abbrev V : World
  V = run n More

  module _ (g : IsGoldAt n W file k birth) (h : IsGoldAt n V file k birth) (agreed : AreAgreed n W file k) where
    abbrev own_w : OwnFlag (W.stores k) file k birth
    own_w = own_there n on events file k birth g

    abbrev own_v : OwnFlag (V.stores k) file k birth
    own_v = own_there n on More file k birth h

    abbrev F : Flag
    F = own_w.flag

    -- ---- where nothing happens

    idle : IsIdle n events event → AreAgreed n V file k
    idle i = record {
      known = λ t live full.
          agrees_by file k (W.stores t) (V.stores t) (W.stores k) (V.stores k) (i.stores t) (i.stores k)
          (agreed.known t (live_before n events event t live) (ap (λ (a : Store). is_full a file) (sym (i.stores t)) ∙ full));
      told = λ m ends there says of_file live born.
          agrees_by file k (W.stores m.to) (V.stores m.to) (W.stores k) (V.stores k) (i.stores m.to) (i.stores k)
          (agreed.told m ends (subst (λ (ms : List Sent). Contains ms m) i.mail_is there) says of_file (live_before n events event m.to live)
          (ap (λ (a : Store). birth_at a file) (sym (i.stores m.to)) ∙ born));
    }

    -- ---- where a server takes an input

    module _ (x : IsActed n events event) (kept : Forgets n W file event → ⊥) where
      abbrev S : ℕ
      S = x.s

      abbrev A : Store
      A = W.stores S

      abbrev E : Store
      E = (effect A x.asked).store

      whole_s : IsWhole n S A
      whole_s = on.holding.whole events S x.acts.least x.acts.most

      live_s : is_live n W S ≡ true
      live_s = acts_live n W (record { server = S; asked = x.asked }) x.acts

      grows : Grows A E
      grows = (on.events.grow events event S x.asked x.takes).1

      moves : BirthsMove A E
      moves = (let m = on.events.moves events event S x.asked x.takes in moves_then A (first_effect A x.asked).store E m.0 m.1)

      -- what is over stays over
      over_on : (t : ℕ) (m : ℕ) → IsOver (W.stores t) file m → IsOver (V.stores t) file m
      over_on t m over = elim (same_number t S) [
        | inl same ↦ (
            let P : ℕ → Type 0 = λ i. IsOver (W.stores i) file m → IsOver (V.stores i) file m in
            subst P (sym same) (λ o. subst (λ (b : Store). IsOver b file m) (sym x.here) (over_stays A E file m moves o)) over)
        | inr apart ↦ subst (λ (b : Store). IsOver b file m) (sym (x.others t apart)) over
      ]

      -- ---- the flag of a replica that is held on

      abbrev KnowsF : Store → Type 0
      KnowsF b = (y : Flag) × (flag_at b file k ≡ Some y) × (is_older y F ≡ false)

      here_on : (c : ℕ) → birth_at A file ≡ Some c → birth_at E file ≡ Some c → flag_at A file k ≡ Some F → KnowsF E
      here_on c was born there = elim (grows file c was) [
        | inl grown ↦ grown_by F (flag_at E file k) (subst (λ (o : Option Flag). IsFlagKnownBy o (flag_at E file k)) there (grown.1.flags k))
        | inr over ↦ absurd (held_not_over E file c born over)
      ]

      -- ---- the gold one

      module _ (full_k : is_full (W.stores k) file ≡ true) where
        own_here : (k ≡ S) → own_v.flag ≡ F
        own_here same =
            let born_a : birth_at A file ≡ Some birth = ap (λ (i : ℕ). birth_at (W.stores i) file) (sym same) ∙ g.born in
            let gold_a : is_gold A file ≡ true = ap (λ (i : ℕ). is_gold (W.stores i) file) (sym same) ∙ g.gold in
            let full_a : is_full A file ≡ true = ap (λ (i : ℕ). is_full (W.stores i) file) (sym same) ∙ full_k in
            let there_a : flag_at A file k ≡ Some F = ap (λ (i : ℕ). flag_at (W.stores i) file k) (sym same) ∙ own_w.there in
            let store_v : V.stores k ≡ E = ap V.stores same ∙ x.here in
            let born_e : birth_at E file ≡ Some birth = ap (λ (b : Store). birth_at b file) (sym store_v) ∙ h.born in
            let grown = here_on birth born_a born_e there_a in
            let is : grown.0 ≡ own_v.flag = same_Some grown.0 own_v.flag (sym grown.1 ∙ ap (λ (b : Store). flag_at b file k) (sym store_v) ∙ own_v.there) in
            let newer : is_older own_v.flag F ≡ false = subst (λ (f : Flag). is_older f F ≡ false) is grown.2 in
            let i = live_is n V k h.live in
            let of_it = known_of n on More file k birth h k i.least i.most own_v.flag own_v.there in
            elim (x.flags file own_v.flag of_it.known) [
              | inl made ↦ absurd (false≢true (
                  sym (on.events.raise_none events event S x.asked x.takes file own_v.flag full_a gold_a
                  (among_contained (effect A x.asked).out.made (update.Flag file own_v.flag) made)) ∙ own_v.raised))
              | inr was ↦ top n on events file k birth g own_v.flag
                  (record { known = was; server_is = own_v.server_is; below = subst (λ (m : ℕ). m ≤ birth) (sym own_v.birth_is) (itself birth) }) newer
            ]
          where
            itself : (m : ℕ) → m ≤ m
            itself m = omega arith

        own_same : own_v.flag ≡ F
        own_same = elim (same_number k S) [
          | inl same ↦ own_here same
          | inr apart ↦ same_Some own_v.flag F (sym own_v.there ∙ ap (λ (b : Store). flag_at b file k) (x.others k apart) ∙ own_w.there)
        ]

        full_on : is_full (V.stores k) file ≡ true
        full_on = elim (same_number k S) [
          | inl same ↦ (
              let born_a : birth_at A file ≡ Some birth = ap (λ (i : ℕ). birth_at (W.stores i) file) (sym same) ∙ g.born in
              let full_a : is_full A file ≡ true = ap (λ (i : ℕ). is_full (W.stores i) file) (sym same) ∙ full_k in
              let store_v : V.stores k ≡ E = ap V.stores same ∙ x.here in
              let born_e : birth_at E file ≡ Some birth = ap (λ (b : Store). birth_at b file) (sym store_v) ∙ h.born in
              ap (λ (b : Store). is_full b file) store_v ∙ on.events.stays events event S x.asked x.takes file birth full_a born_a born_e)
          | inr apart ↦ ap (λ (b : Store). is_full b file) (x.others k apart) ∙ full_k
        ]

      -- ---- who knows it goes on to know it

      agrees_on : (t : ℕ) → 1 ≤ t → t ≤ n → (c : ℕ) → birth_at (W.stores t) file ≡ Some c → birth_at (V.stores t) file ≡ Some c
          → Agrees file k (W.stores t) (W.stores k) → Agrees file k (V.stores t) (V.stores k)
      agrees_on t least most c was born a = (full_on a.0, flag_is (same_number t S))
        where
          there : flag_at (W.stores t) file k ≡ Some F
          there = a.1 ∙ own_w.there

          known_v : (y : Flag) → flag_at (V.stores t) file k ≡ Some y → is_older y F ≡ false → flag_at (V.stores t) file k ≡ flag_at (V.stores k) file k
          known_v y is newer =
              let of_it = known_of n on More file k birth h t least most y is in
              let same = top n on More file k birth h y of_it (subst (λ (f : Flag). is_older y f ≡ false) (sym (own_same a.0)) newer) in
              is ∙ ap Some same ∙ sym own_v.there

          flag_is : (t ≡ S) ⊎ (t ≢ S) → flag_at (V.stores t) file k ≡ flag_at (V.stores k) file k
          flag_is (inl same) =
              let store_v : V.stores t ≡ E = ap V.stores same ∙ x.here in
              let grown = here_on c (ap (λ (i : ℕ). birth_at (W.stores i) file) (sym same) ∙ was) (ap (λ (b : Store). birth_at b file) (sym store_v) ∙ born)
              (ap (λ (i : ℕ). flag_at (W.stores i) file k) (sym same) ∙ there) in
              known_v grown.0 (ap (λ (b : Store). flag_at b file k) store_v ∙ grown.1) grown.2
          flag_is (inr apart) = known_v F (ap (λ (b : Store). flag_at b file k) (x.others t apart) ∙ there) (not_older_itself F)

      born_of_full : (t : ℕ) → 1 ≤ t → t ≤ n → is_full (W.stores t) file ≡ true → (c : ℕ) × (birth_at (W.stores t) file ≡ Some c)
      born_of_full t least most full =
          birth_of_held (W.stores t) (on.holding.whole events t least most).together file (full_held (W.stores t).names file full)

      -- ---- what is full

      -- the thing is none that is made now
      not_made : MakesIt A file → ⊥
      not_made m =
          let i = live_is n W k g.live in
          let own = own_of_known (W.stores k) file k F own_w.there in
          let thing = (((on.holding.named events).names k i.least i.most).own file own.0 own.1).thing in
          by thing m.0 m.1
        where
          no_zero : (a b : ℕ) → a ≡ b + 1 → a ≡ 0 → ⊥
          no_zero a b e f = absurd (omega arith)

          too_many : (a b : ℕ) → a ≡ b + 1 → a ≤ b → ⊥
          too_many a b e le = absurd (omega arith)

          by : IsMade n (λ j. (W.stores j).files) file → (kind : Kind) → file ≡ next_id A kind → ⊥
          by (inl first) kind is = no_zero file.number A.files (ap (λ (f : FileId). f.number) is) (ap (λ (f : FileId). f.number) first)
          by (inr born) kind is =
              let server : file.server ≡ S = ap (λ (f : FileId). f.server) is ∙ whole_s.server in
              let most : file.number ≤ A.files = subst (λ (j : ℕ). file.number ≤ (W.stores j).files) server born.given in
              too_many file.number A.files (ap (λ (f : FileId). f.number) is) most

      not_forgotten : ForgetsIt A x.asked file → ⊥
      not_forgotten f =
          kept (record {
            server = S;
            moment = f.moment;
            is = called_is n W event S f.moment (call.Forget file) (subst (λ (a : Input). TakesIn n W event S a) f.is x.takes);
            done = x.reply ∙ f.done;
          })

      told_here : (f : TellsFull A x.asked file) → Agrees file k A (W.stores k)
      told_here f =
          let m : Sent = record { to = S; packet = f.packet } in
          let there : Contains (mail W.journal) m = subst (HasCome W S) f.is x.acts.came in
          agreed.told m f.ends there f.says f.file_is live_s f.born

      full_here : is_full E file ≡ true → Agrees file k (V.stores S) (V.stores k)
      full_here full = elim (on.events.begins events event S x.asked x.takes file full) [
        | inl was ↦ (
            let c = born_of_full S x.acts.least x.acts.most was in
            on_here c.0 c.1 (agreed.known S live_s was))
        | inr r ↦ elim r [
          | inl told ↦ on_here told.ends.receiver told.born (told_here told)
          | inr q ↦ elim q [
            | inl makes ↦ absurd (not_made makes)
            | inr forgets ↦ absurd (not_forgotten forgets)
          ]
        ]
      ]
        where
          on_here : (c : ℕ) → birth_at A file ≡ Some c → Agrees file k A (W.stores k) → Agrees file k (V.stores S) (V.stores k)
          on_here c was a = elim ((on.events.stay events event S x.asked x.takes).1 file c was) [
            | inl born ↦ agrees_on S x.acts.least x.acts.most c was (ap (λ (b : Store). birth_at b file) x.here ∙ born) a
            | inr gone ↦ absurd (false≢true (sym gone.0 ∙ full_held E.names file full))
          ]

      known_then : (t : ℕ) → is_live n V t ≡ true → is_full (V.stores t) file ≡ true → Agrees file k (V.stores t) (V.stores k)
      known_then t live full = elim (same_number t S) [
        | inl same ↦ (
            let P : ℕ → Type 0 = λ i. Agrees file k (V.stores i) (V.stores k) in
            subst P (sym same) (full_here (ap (λ (b : Store). is_full b file) (sym x.here) ∙ ap (λ (i : ℕ). is_full (V.stores i) file) (sym same) ∙ full)))
        | inr apart ↦ (
            let there = live_before n events event t live in
            let i = live_is n W t there in
            let was : is_full (W.stores t) file ≡ true = ap (λ (b : Store). is_full b file) (sym (x.others t apart)) ∙ full in
            let c = born_of_full t i.least i.most was in
            agrees_on t i.least i.most c.0 c.1 (ap (λ (b : Store). birth_at b file) (x.others t apart) ∙ c.1) (agreed.known t there was))
      ]

      -- ---- what is said

      module _ (m : Sent) (ends : Ends) (says : m.packet.message ≡ message.Full ends) (of_file : ends.file ≡ file) (live : is_live n V m.to ≡ true)
          (born : birth_at (V.stores m.to) file ≡ Some ends.receiver) where
        there_live : is_live n W m.to ≡ true
        there_live = live_before n events event m.to live

        least : 1 ≤ m.to
        least = (live_is n W m.to there_live).least

        most : m.to ≤ n
        most = (live_is n W m.to there_live).most

        not_over : IsOver (W.stores m.to) file ends.receiver → ⊥
        not_over over = held_not_over (V.stores m.to) file ends.receiver born (over_on m.to ends.receiver over)

        -- it was sent before
        old : Contains (mail W.journal) m → Agrees file k (V.stores m.to) (V.stores k)
        old there =
            let said : SaysFull W m = All-contains (SaysFull W) (mail W.journal) m (on.holding.fulls events) there in
            elim (said ends says) [
              | inl filled ↦ (
                  let was : birth_at (W.stores m.to) file ≡ Some ends.receiver = ap (birth_at (W.stores m.to)) (sym of_file) ∙ filled.held in
                  agrees_on m.to least most ends.receiver was born (agreed.told m ends there says of_file there_live was))
              | inr over ↦ absurd (not_over (subst (λ (f : FileId). IsOver (W.stores m.to) f ends.receiver) of_file over))
            ]

        -- or it is sent now
        module _ (full : is_full A file ≡ true) (clean : IsCleanEdge A file m.to ends.receiver) where
          sender : Agrees file k A (W.stores k)
          sender = agreed.known S live_s full

          sender_knows : flag_at A file k ≡ Some F
          sender_knows = sender.1 ∙ own_w.there

          receives : (hadt : IsHadThere W file clean.edge (cell.Flag F)) → Agrees file k (V.stores m.to) (V.stores k)
          receives hadt =
              let P : ℕ → Type 0 = λ i. KnowsUp (W.stores i) file F in
              let y = subst P clean.peer_is (flag_had (W.stores clean.edge.peer) file F hadt.had) in
              let is : flag_at (W.stores m.to) file k ≡ Some y.0 = ap (flag_at (W.stores m.to) file) (sym own_w.server_is) ∙ y.1 in
              let same : y.0 ≡ F = top n on events file k birth g y.0 (known_of n on events file k birth g m.to least most y.0 is) y.2 in
              let was : birth_at (W.stores m.to) file ≡ Some ends.receiver =
              ap (λ (i : ℕ). birth_at (W.stores i) file) (sym clean.peer_is) ∙ ap (option_map (λ (r : Replica). r.birth)) hadt.is ∙ ap Some (hadt.born ∙ clean.birth_is) in
              agrees_on m.to least most ends.receiver was born (sender.0, is ∙ ap Some same ∙ sym own_w.there)

          new_by : Agrees file k (V.stores m.to) (V.stores k)
          new_by =
              elim (on.quiet.had events S x.acts.least x.acts.most file clean.replica clean.edge (key.Flag k) (cell.Flag F) clean.is clean.among (clean.none (key.Flag k)) (ap flag_cell sender_knows)) [
                | inl hadt ↦ receives hadt
                | inr over ↦ absurd (not_over (
                    let P : ℕ → Type 0 = λ i. IsOver (W.stores i) file clean.edge.birth in
                    subst (IsOver (W.stores m.to) file) clean.birth_is (subst P clean.peer_is over)))
              ]

        new : Contains (effect A x.asked).out.sent m → Agrees file k (V.stores m.to) (V.stores k)
        new there =
            let said = on.events.said events event S x.asked x.takes m ends there says in
            let Q : FileId → Type 0 = λ f. IsCleanEdge A f m.to ends.receiver in
            new_by (ap (is_full A) (sym of_file) ∙ said.0) (subst Q of_file said.1)

        told_by : Contains (mail V.journal) m → Agrees file k (V.stores m.to) (V.stores k)
        told_by there =
            let sent = (effect A x.asked).out.sent in
            elim (among_parts m sent (mail W.journal) (contained_among (sent ++ mail W.journal) m (subst (λ (ms : List Sent). Contains ms m) x.mail_is there))) [
              | inl now ↦ new (among_contained sent m now)
              | inr was ↦ old (among_contained (mail W.journal) m was)
            ]

      acted : AreAgreed n V file k
      acted = record {
        known = known_then;
        told = λ m ends there says of_file live born. told_by m ends says of_file live born there;
      }

    -- WHO KNEW IT KNOWS IT
    pub agreed_on : (Forgets n W file event → ⊥) → AreAgreed n V file k
    agreed_on kept = elim (one_step n events event) [
      | inl i ↦ idle i
      | inr x ↦ acted x kept
    ]
