mod Read
mod Fitted
mod Going
mod Walking
