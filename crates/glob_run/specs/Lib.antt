-- A run: `CommandLine` says which request the words make, `Requests` lists the requests, `Outcomes` says what each does.
pub mod CommandLine
pub mod Outcomes
pub mod Requests
