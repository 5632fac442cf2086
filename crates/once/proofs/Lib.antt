-- One input admits one outcome: of what each job hands back in Rattle, and of what its C function does.
pub mod Values
pub mod Numbers
