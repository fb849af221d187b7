mod Rounds
mod Says
mod Wholes
mod Each
mod Few
mod Spelled
mod Examples
