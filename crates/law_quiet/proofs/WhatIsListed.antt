-- Where a run is quiet and its things are connected, each thing is listed where it stands, and
-- nowhere else.
use Rattle.std.proofs.Common.{ℕ, ◌≡◌, ◌≢◌, Bool, true, false, List, Option, None, Some, refl, sym, ap, subst, ◌∙◌, arith}
use Rattle.std.proofs.lemmas.Bool.{false≢true, and_parts}
use Rattle.std.proofs.lemmas.Bool.Decides.{nat_tests}
use Rattle.std.proofs.lemmas.Option.{none-some, same_Some}
use Rattle.pg_run.specs.pg_base.declared.id.FileId.{FileId}
use Rattle.pg_run.specs.pg_base.declared.stamp.Stamp.{Stamp}
use Rattle.pg_run.specs.pg_base.Id.{is_same_file}
use Rattle.pg_run.specs.pg_base.Stamp.{is_before}
use Rattle.pg_run.proofs.pg_base.Orders.{is_same_file-refl, is_same_file-true}
use Rattle.pg_run.specs.pg_entries.declared.entry.Entry.{Entry}
use Rattle.pg_run.specs.pg_intent.declared.key.IntentKey.TheVariants as intent_key
use Rattle.pg_run.specs.pg_intent.Intents.{intent_at}
use Rattle.law_listings.specs.theory_listing.Laws as listing_laws
use Rattle.law_listings.specs.theory_listing.Promises.{Kept}
use Rattle.law_listings.specs.theory_listing.Protocol.{IsOrdered}
use Rattle.law_listings.specs.theory_listing.Protocol as protocol
use Rattle.law_listings.proofs.theory_listing.Quiet.{quiet_lists}
use Rattle.pg_run.specs.pg_names.declared.attributes.Attributes.{Attributes}
use Rattle.pg_run.specs.pg_names.Names.{cell_at, is_dir, or_blank, own_at}
use Rattle.pg_run.specs.pg_register.declared.place.Place.{Place}
use Rattle.pg_run.specs.pg_register.Place.{root}
use Rattle.pg_run.proofs.pg_house.Truths.{before_itself}
use Rattle.law_listings.specs.theory_listing_house.Listing.{cell_place, own_place}
use Rattle.pg_run.specs.Laws.{IsListedOnly, Lists, Stands}
use Rattle.pg_run.specs.Run.{World, is_live}
use Rattle.law_listings.specs.Letters.{Letter, listings, of_stores, patch_place}
use Rattle.law_quiet.proofs.Facts.{Facts, holds_of, no_intents, none_stands}
use Rattle.law_quiet.proofs.Standing.{cell_of_own, parent_cell, parent_held}

-- ---- stamps, and servers

pub ordered : IsOrdered of_stores
ordered = record {
  further = λ a b c p q. further a b c p q;
  never = λ a h. false≢true (sym (before_itself a) ∙ h);
}
  where
    further : (a b c : Stamp) → is_before a b ≡ true → is_before b c ≡ true → is_before a c ≡ true
    further a b c p q = grind (arith, nat_tests)

-- ---- what is seen of a place

own_seen : (o : Option Attributes) (q : Place) → own_place o ≡ Some q → (own : Attributes) × (o ≡ Some own) × (own.place ≡ q)
own_seen None q h = absurd (none-some q h)
own_seen (Some own) q h = (own, refl, same_Some own.place q h)

cell_seen : (o : Option Entry) (q : Place) → cell_place o ≡ Some q → (e : Entry) × (o ≡ Some e) × (e.place ≡ q)
cell_seen None q h = absurd (none-some q h)
cell_seen (Some e) q h = (e, refl, same_Some e.place q h)

apart_by : (f : FileId) (t : Bool) → is_same_file f root ≡ t → f ≢ root → t ≡ false
apart_by f false e other = refl
apart_by f true e other = absurd (other (is_same_file-true f root e))

apart_of : (f : FileId) → f ≢ root → is_same_file f root ≡ false
apart_of f other = apart_by f (is_same_file f root) refl other

other_of : (f : FileId) → is_same_file f root ≡ false → f ≢ root
other_of f apart e = false≢true (sym apart ∙ ap (λ (x : FileId). is_same_file x root) e ∙ is_same_file-refl root)

module _ (n : ℕ) (w : World) (sent : List Letter) (k : Facts n w) (kept : Kept of_stores (listings n w sent)) where
  -- ---- nothing is owed, as directories see it

  -- a cell is not later than the own place of its child
  passed_by : (s : ℕ) (there : is_live n w s ≡ true) (d f : FileId) (own : Attributes) (e : Entry) (t : Bool) → is_same_file f root ≡ t
      → own_at (w.stores s).names f ≡ Some own → cell_at (w.stores s).names d f ≡ Some e → is_before own.place.stamp e.place.stamp ≡ true → ⊥
  passed_by s there d f own e true same held at later =
      let P : FileId → Type 0 = λ x. cell_at (w.stores s).names d x ≡ Some e in
      (k.named s there).inner d e (subst P (is_same_file-true f root same) at)
  passed_by s there d f own e false apart held at later =
      let is : e.place ≡ own.place = ap (λ (x : Entry). x.place) (cell_of_own n w k s there d f e own at held apart) in
      false≢true (sym (before_itself own.place.stamp) ∙ ap (λ (p : Place). is_before own.place.stamp p.stamp) (sym is) ∙ later)

  quiet_seen : listing_laws.IsQuiet of_stores (listings n w sent)
  quiet_seen = record {
    views = λ s live. record { live = live; view = (let same = k.quiet.views s live in omega arith) };
    confirms = λ s d c live h. none_stands n w k s live (intent_key.Confirm d c) h;
    patches = λ s d c live. ap (λ is. patch_place (intent_at is (intent_key.Patch d c))) (no_intents n w k s live);
    filled = λ s f q live own_is live_place inner.
        let own = own_seen (own_at (w.stores s).names f) q own_is in
        let lives : own.0.place.live ≡ true = ap (λ (p : Place). p.live) own.2 ∙ live_place.0 in
        let above = parent_held n w k s live f own.0 own.1 (apart_of f inner) lives in
        let P : Place → Type 0 = λ p. own_place (own_at (w.stores s).names p.parent) ≡ Some above.0.place in
        (above.0.place, subst P own.2 (ap own_place above.1));
    passed = λ s d f q r live own_is cell_is below.
        let own = own_seen (own_at (w.stores s).names f) q own_is in
        let e = cell_seen (cell_at (w.stores s).names d f) r cell_is in
        passed_by s live d f own.0 e.0 (is_same_file f root) refl own.1 e.1
        (ap (λ (p : Place). is_before p.stamp e.0.place.stamp) own.2 ∙ ap (λ (p : Place). is_before q.stamp p.stamp) e.2 ∙ below);
    agree = λ s t f q r live other own_s own_t.
        let a = own_seen (own_at (w.stores s).names f) q own_s in
        let b = own_seen (own_at (w.stores t).names f) r own_t in
        let same = k.agreed f s live t other (holds_of n s w f a.0 (k.whole s live) a.1)
        (holds_of n t w f b.0 (k.whole t other) b.1) in
        let one : a.0 ≡ b.0 = sym (ap (or_blank f) a.1) ∙ same.own ∙ ap (or_blank f) b.1 in
        sym a.2 ∙ ap (λ (o : Attributes). o.place) one ∙ b.2;
    same_cells = λ s t d c live other held_s held_t.
        let a = own_seen (own_at (w.stores s).names d) held_s.0 held_s.1 in
        let b = own_seen (own_at (w.stores t).names d) held_t.0 held_t.1 in
        let same = k.agreed d s live t other (holds_of n s w d a.0 (k.whole s live) a.1)
        (holds_of n t w d b.0 (k.whole t other) b.1) in
        ap cell_place (same.entries c);
  }

  seen : listing_laws.IsListedOnly of_stores (listings n w sent)
  seen = quiet_lists of_stores ordered (listings n w sent) kept quiet_seen

  -- ---- from there to runs

  -- what a directory lists, as directories see it
  lists_seen : (d f : FileId) (c : Entry) → (l : Lists n w d f c) → protocol.Lists of_stores (w.stores l.server) d f c.place
  lists_seen d f c l =
      let parts = and_parts c.place.live (is_same_file c.place.parent d) l.listed in
      let parent : c.place.parent ≡ d = is_same_file-true c.place.parent d parts.1 in
      let P : FileId → Type 0 = λ x. cell_at (w.stores l.server).names d x ≡ Some c in
      record {
        cell = ap cell_place l.held;
        is_in = record {
          live = (parts.0, dir_of d f c l parent);
          parent = parent;
          inner = λ e. (k.named l.server l.there).inner d c (subst P e l.held);
        };
      }
    where
      -- only directories have cells
      dir_of : (d f : FileId) (c : Entry) (l : Lists n w d f c) → c.place.parent ≡ d → is_dir c.place.parent ≡ true
      dir_of d f c l parent = ap is_dir parent ∙ (k.whole l.server l.there).names.dirs d f c l.held

  survives_seen : (f : FileId) (place : Place) → is_same_file f root ≡ false → Stands n w f place → listing_laws.Survives of_stores (listings n w sent) f place
  survives_seen f place apart t = record {
    server = t.server;
    live = t.there;
    own = ap own_place t.held ∙ ap (λ (p : Place). Some p) t.is;
    live_place = (t.live, ap (λ (p : Place). is_dir p.parent) (sym t.is) ∙ (k.named t.server t.there).dirs f t.own t.held);
    inner = other_of f apart;
  }

  stands_from : (f : FileId) (place : Place) → listing_laws.Survives of_stores (listings n w sent) f place → Stands n w f place
  stands_from f place h =
      let own = own_seen (own_at (w.stores h.server).names f) place h.own in
      record { server = h.server; there = h.live; own = own.0; held = own.1; is = own.2; live = h.live_place.0 }

  nowhere : (d f : FileId) (c : Entry) (place : Place) (t : Bool) → is_same_file f root ≡ t → Lists n w d f c → Stands n w f place
      → (c.place ≡ place) × (d ≡ place.parent)
  nowhere d f c place true same l stands =
      let P : FileId → Type 0 = λ x. cell_at (w.stores l.server).names d x ≡ Some c in
      absurd ((k.named l.server l.there).inner d c (subst P (is_same_file-true f root same) l.held))
  nowhere d f c place false apart l stands =
      seen.only f d place c.place l.server (survives_seen f place apart stands) l.there (lists_seen d f c l)

  -- EACH THING IS LISTED ONLY WHERE IT STANDS
  pub listed_only : IsListedOnly n w
  listed_only = record {
    there = λ f own s t ls lt apart held live above at.
        (let c = parent_cell n w k s ls f own held apart live in
        let p = own.place.parent in
        let over = parent_held n w k s ls f own held apart live in
        let same = k.agreed p s ls t lt (holds_of n s w p over.0 (k.whole s ls) over.1) (holds_of n t w p above (k.whole t lt) at) in
        (c.0, sym (same.entries f) ∙ c.1, ap (λ (x : Entry). x.place) c.2, ap (λ (x : Entry). x.flags) c.2));
    only = λ d f c l. stands_from f c.place (seen.survives f d c.place l.server l.there (lists_seen d f c l));
    nowhere_else = λ d f c place l stands. nowhere d f c place (is_same_file f root) refl l stands;
  }
