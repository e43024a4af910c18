-- What the theorems on refusal places cite: rows that begin a program's rows, and what each refusal says of the rows before its place.
pub mod Begins
pub mod Faults
pub mod Tapes
