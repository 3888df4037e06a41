mod Fewest
mod OneLeast
mod Quotient
mod Standing
mod Theorem
