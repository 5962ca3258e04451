mod Joins
mod Records
mod Tapes
