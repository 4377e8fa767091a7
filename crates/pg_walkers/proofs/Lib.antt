pub mod Relisted
