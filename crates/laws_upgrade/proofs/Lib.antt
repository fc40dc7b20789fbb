mod Alike
mod Merits
mod Picks
mod Moves
mod Trees
mod Commands
mod Steps
mod Runs
