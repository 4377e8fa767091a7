-- The premises: what law_order gives, and who makes versions.
use Rattle.std.proofs.Common.{ℕ}
use Rattle.law_births.specs.Premises.{FillsAlwaysStand, MakersHold, NextIdsAreFree, StoresAreWhole}
use Rattle.law_births.proofs.Makers.{makers_hold}
use Rattle.law_order.proofs.Told.{ids_new, servers_whole}
use Rattle.pg_run.specs.Intending.{IntentionsAreInOrder}

pub fills_stand : (n : ℕ) → IntentionsAreInOrder n → FillsAlwaysStand n
fills_stand n k events s least most = (k events s least most).fills

pub ids_free : (n : ℕ) → NextIdsAreFree n
ids_free n events s least most kind =
    let new = ids_new n events s least most kind in
    record { away = new.away; unfilled = new.unfilled }

pub stores_whole : (n : ℕ) → StoresAreWhole n
stores_whole n = servers_whole n

pub makers : (n : ℕ) → MakersHold n
makers n = makers_hold n (stores_whole n)
