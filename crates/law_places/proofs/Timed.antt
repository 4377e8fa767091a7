-- No place that a server knows is later than the greatest time.
use Rattle.std.proofs.Common.{ℕ, ◌≤◌, max, Bool, arith}
use Rattle.law_frame.specs.pg_run.pg_base.declared.id.FileId.{FileId}
use Rattle.law_frame.specs.pg_run.pg_entries.declared.entry.Entry.{Entry}
use Rattle.law_frame.specs.pg_run.pg_names.declared.attributes.Attributes.{Attributes}
use Rattle.law_frame.specs.pg_run.pg_names.Names.{NamesValue, begin, join_entry, join_flag, join_place, raise}
use Rattle.law_frame.specs.pg_run.pg_names.Names as names
use Rattle.law_frame.proofs.pg_run.pg_names.Lookups.{update_frame}
use Rattle.law_frame.specs.pg_run.pg_register.declared.flag.Flag.{Flag}
use Rattle.law_frame.specs.pg_run.pg_register.declared.place.Place.{Place}
use Rattle.law_places.proofs.Known.{AreNames, begun_names, entry_names, filled_names, flag_names, names_further, place_names, raised_names}

pub at_least : (a t : ℕ) → a ≤ max a t
at_least a t = grind arith

pub at_most : (a t : ℕ) → t ≤ max a t
at_most a t = grind arith

abbrev pub UpTo : ℕ → FileId → Place → Type 0
UpTo n f p = p.stamp.time ≤ n

abbrev pub AreTimed : NamesValue → Type 0
AreTimed names = AreNames (UpTo names.last) names

pub timed_later : (names : NamesValue) (n : ℕ) → names.last ≤ n → AreTimed names → AreNames (UpTo n) names
timed_later names n le k = names_further (UpTo names.last) (UpTo n) (λ f p h. omega arith) names k

module _ (a : NamesValue) (k : AreTimed a) where
  pub raised_timed : (time : ℕ) → AreTimed (raise a time)
  raised_timed time = raised_names (UpTo (max a.last time)) a (timed_later a (max a.last time) (at_least a.last time) k) time

  pub place_timed : (f : FileId) (place : Place) → AreTimed (raise (join_place a f place) place.stamp.time)
  place_timed f place =
      let n = max (join_place a f place).last place.stamp.time in
      let e = (update_frame a f (names.with_place place)).last in
      let l = at_least (join_place a f place).last place.stamp.time in
      raised_names (UpTo n) (join_place a f place)
      (place_names (UpTo n) a (timed_later a n (omega (arith, e, l)) k) f place (at_most (join_place a f place).last place.stamp.time)) place.stamp.time

  pub flag_timed : (f : FileId) (flag : Flag) → AreTimed (join_flag a f flag)
  flag_timed f flag =
      let n = (join_flag a f flag).last in
      let e = (update_frame a f (names.with_flag flag)).last in
      flag_names (UpTo n) a (timed_later a n (omega (arith, e)) k) f flag

  pub entry_timed : (d : FileId) (x : Entry) → AreTimed (raise (join_entry a d x) x.place.stamp.time)
  entry_timed d x =
      let n = max (join_entry a d x).last x.place.stamp.time in
      let e = (update_frame a d (names.with_joined x)).last in
      let l = at_least (join_entry a d x).last x.place.stamp.time in
      raised_names (UpTo n) (join_entry a d x)
      (entry_names (UpTo n) a (timed_later a n (omega (arith, e, l)) k) d x (at_most (join_entry a d x).last x.place.stamp.time)) x.place.stamp.time

  pub begin_timed : (f : FileId) (own : Attributes) (full : Bool) → AreTimed (raise (begin a f own full) own.place.stamp.time)
  begin_timed f own full =
      let n = max a.last own.place.stamp.time in
      raised_names (UpTo n) (begin a f own full)
      (begun_names (UpTo n) a (timed_later a n (at_least a.last own.place.stamp.time) k) f own full (at_most a.last own.place.stamp.time)) own.place.stamp.time

  pub fill_timed : (f : FileId) → AreTimed (names.fill a f)
  fill_timed f =
      let n = (names.fill a f).last in
      let e = (update_frame a f names.filled).last in
      filled_names (UpTo n) a (timed_later a n (omega (arith, e)) k) f
